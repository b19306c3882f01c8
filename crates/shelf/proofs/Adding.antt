-- What a crash leaves of a journal in which a record is added, after calls that write nothing.
use Rattle.std.proofs.Common.{◌≡◌, ◌∙◌, inl, inr, ⊎_elim, ℕ, Bool, List, Option, Some, None, option_map, is_some, IfSome, IsTrue, ap, subst, arith}
use Rattle.web_disk.specs.View.{View, NoNewImage, Elapses, LeavesOnly}
use Rattle.page_journal.specs.Records.{newest, stored}
use Rattle.page_journal.specs.Holding.{MayHold}
use Rattle.page_journal.specs.Settled.{IsSettled, view_of, bodies_in}
use Rattle.page_journal.specs.declared.journal.Journal.{Journal}
use Rattle.page_journal.proofs.Mending.{leaves_then}
use Rattle.replay_spec.specs.Admission.{◌>>=◌}
use Rattle.shelf.specs.declared.follower.Follower.{Follower}
use Rattle.shelf.specs.declared.shelf.Shelf.{Shelf}
use Rattle.shelf.specs.Following.{CanBeFed}
use Rattle.shelf.specs.Views.{doubt_of, IsFed, IsInOrder}
use Rattle.shelf.proofs.Newest.{newest_images}
use Rattle.book_recovery.proofs.JournalSpec.Standings.{OnlyNow}

-- calls that write nothing leave what a crash might have left at first
pub nothing_then : (v w : View) (P : List ℕ → Type 0) → OnlyNow v → NoNewImage v w → Elapses v w → ((image : List ℕ) → v.images image → P image) → LeavesOnly v w P
nothing_then v w P only_now less time holds = record {
  later = time.later;
  each = λ image left. ⊎_elim (λ was. holds image (only_now image was)) (λ now. holds image (less image now)) (time.nothing_else v.moment image (omega arith) left);
  before = λ t image le left. ⊎_elim (λ was. inl was) (λ now. inr (holds image (less image now))) (time.nothing_else t image le left);
}

-- calls that write nothing leave just that
pub as_before : (v w : View) → OnlyNow v → NoNewImage v w → Elapses v w → LeavesOnly v w v.images
as_before v w only_now less time = nothing_then v w v.images only_now less time (λ image left. left)

module _ {D : Type 0} (view : D → View) (j : Journal D) (body : List ℕ) (settled : IsSettled view j) (now_is : j.format ≡ newest) (only_now : OnlyNow (view_of view j)) where
  abbrev pub Held : List ℕ → Type 0
  Held = MayHold newest (bodies_in view j) body

  held_now : (image : List ℕ) → (view_of view j).images image → Held image
  held_now image left = inl (newest_images view j settled now_is image left)

  module _ (mid : Journal D) (less : NoNewImage (view_of view j) (view_of view mid)) (time : Elapses (view_of view j) (view_of view mid)) where
    -- room was made
    room_adds : LeavesOnly (view_of view j) (view_of view mid) Held
    room_adds = nothing_then (view_of view j) (view_of view mid) Held only_now less time held_now

    -- and then the record was added, or not
    pub then_adds : (new : Journal D) → (view_of view mid).seen ≡ (view_of view j).seen → LeavesOnly (view_of view mid) (view_of view new) (MayHold newest (bodies_in view mid) body) → LeavesOnly (view_of view j) (view_of view new) Held
    then_adds new seen run =
        leaves_then (view_of view j) (view_of view mid) (view_of view new) Held room_adds
        (subst (λ (bs : List (List ℕ)). LeavesOnly (view_of view mid) (view_of view new) (MayHold newest bs body)) (ap stored seen) run)

-- ---- a shelf that follows

module _ {D N : Type 0} (s : Shelf D N) (f : Follower) (is : s.follower ≡ Some f) where
  pub can_be_fed : f.fallen ≡ None → CanBeFed s
  can_be_fed standing = record {
    follows_on = ap (λ (o : Option Follower). is_some o) is;
    standing = ap (λ (o : Option Follower). o >>= (λ x. x.fallen)) is ∙ standing;
  }

  -- its journal is settled
  pub settled_fed : (view : D → View) (tells : Bool) → IsInOrder view tells s → IsTrue tells → IsSettled view s.journal
  settled_fed view tells order told =
      let fed_is = subst (λ (o : Option Follower). IfSome o (IsFed view tells s)) is order.fed in
      (order.fit told).settled (ap (option_map doubt_of) fed_is.up)
