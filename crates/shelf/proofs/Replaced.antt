-- What becomes of a journal whose file is to give place to another one.
use Rattle.std.proofs.Common.{◌≡◌, ap, subst, inl, ℕ, Bool, List, Err}
use Rattle.web_disk.specs.View.{View, NoNewImage, Elapses, LeavesOnly}
use Rattle.web_disk.proofs.Moments.{started, goes_on}
use Rattle.page_journal.specs.Records.{newest, stored}
use Rattle.page_journal.specs.Holding.{IsEither}
use Rattle.page_journal.specs.Settled.{IsSettled, view_of, bodies_in}
use Rattle.page_journal.specs.declared.journal.Journal.{Journal}
use Rattle.page_journal.proofs.Holds.{settled_images}
use Rattle.page_journal.proofs.Mending.{leaves_then, leaves_map}
use Rattle.file_copies.specs.declared.copying.CopyFault.{CopyFault}
use Rattle.shelf.specs.Compacting.{Replaces}
use Rattle.book_recovery.proofs.JournalSpec.Standings.{OnlyNow}

module _ {D : Type 0} (view : D → View) (old : Journal D) where
  abbrev v : View
  v = view_of view old

  -- nothing was written
  pub while_still : (mid : View) → OnlyNow v → NoNewImage v mid → Elapses v mid → LeavesOnly v mid v.images
  while_still mid only_now images time = goes_on v v mid v.images (started v v.images only_now) time images

  -- what leaves nothing new leaves the records that are there
  pub left_first : (other : ℕ) (others : List (List ℕ)) (mid : View) → IsSettled view old → LeavesOnly v mid v.images → LeavesOnly v mid (IsEither old.format other (bodies_in view old) others)
  left_first other others mid s run = leaves_map v mid v.images (IsEither old.format other (bodies_in view old) others) (λ image left. inl (settled_images view old s image left)) run

  -- and after that the file gave place to another one, or not
  pub left_then : (mid new : Journal D) (others : List (List ℕ)) → IsSettled view old → LeavesOnly v (view_of view mid) v.images → mid.format ≡ old.format → (view_of view mid).seen ≡ v.seen
      → LeavesOnly (view_of view mid) (view_of view new) (IsEither mid.format newest (bodies_in view mid) others) → LeavesOnly v (view_of view new) (IsEither old.format newest (bodies_in view old) others)
  left_then mid new others s first format seen run =
      leaves_then v (view_of view mid) (view_of view new) (IsEither old.format newest (bodies_in view old) others) (left_first newest others (view_of view mid) s first)
      (subst (λ (f : ℕ). LeavesOnly (view_of view mid) (view_of view new) (IsEither f newest (bodies_in view old) others)) format
      (subst (λ (bs : List (List ℕ)). LeavesOnly (view_of view mid) (view_of view new) (IsEither mid.format newest bs others)) (ap stored seen) run))

-- by the fault that is told
pub replaces_as : {D : Type 0} (view : D → View) (tells : Bool) (old new : Journal D) (file : List ℕ) (x y : CopyFault) → x ≡ y → Replaces {T = Unit {0}} view tells old new file (Err x) → Replaces {T = Unit {0}} view tells old new file (Err y)
replaces_as view tells old new file x y is done = subst (λ (z : CopyFault). Replaces {T = Unit {0}} view tells old new file (Err z)) is done
