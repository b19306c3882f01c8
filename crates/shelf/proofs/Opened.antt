-- A shelf that was opened on a disk.
use Rattle.std.proofs.Common.{◌≡◌, ◌≢◌, inl, inr, ⊎_elim, ℕ, ◌≤◌, ◌^◌, Bool, true, false, List, [], ◌++◌, length, Option, Some, None, option_map, IfSome, IsTrue, refl, sym, ◌∙◌, ap, subst, arith, append-nil}
use Rattle.book_recovery.specs.SetupReader.Texts.{setup_of_texts as texts}
use Rattle.script_nodes.specs.Setup.{Named}
use Rattle.web_disk.specs.View.{View, LeavesOnly}
use Rattle.page_journal.specs.Records.{Intact, newest, is_format, format_of, at_rest, at_rest_in, records, stored}
use Rattle.page_journal.specs.Opened.{IsIntactOrEmpty, TellsFormat}
use Rattle.page_journal.specs.Scanned.{IsQuiet}
use Rattle.page_journal.specs.Settled.{IsSettled, view_of, bodies_in, length_of, is_broken}
use Rattle.page_journal.specs.Settled as journal
use Rattle.page_journal.specs.declared.journal.Journal.{Journal}
use Rattle.page_journal.specs.declared.repair.JournalFault.{JournalFault}
use Rattle.page_journal.specs.declared.repair.JournalFault.TheVariants as journal_fault
use Rattle.page_journal.proofs.Frames.{closed_end}
use Rattle.page_journal.proofs.Mending.{leaves_then}
use Rattle.replay_spec.specs.Book.{Book, File, reopened}
use Rattle.replay_spec.specs.Invariant.{IsOrderly}
use Rattle.book_recovery.specs.JournalSpec.Before.{Made}
use Rattle.book_recovery.specs.JournalSpec.Making.{Making, made_in, book_of}
use Rattle.book_recovery.specs.JournalSpec.Old.{book_of_format, format_of_now}
use Rattle.book_recovery.specs.JournalSpec.Standing.{Between, Held, HoldIn, MakesIn, StaysThroughout, OpensThroughout}
use Rattle.book_recovery.specs.JournalSpec.Disks.{IsFit, OpeningsStay, RecoveriesFindOne}
use Rattle.book_recovery.specs.JournalSpec.Spelling.{IsInRange}
use Rattle.book_recovery.specs.JournalSpec.Whole.{HasWholeScripts}
use Rattle.book_recovery.proofs.JournalSpec.Between.{make_books}
use Rattle.book_recovery.specs.InstanceBook.Views as views
use Rattle.book_recovery.specs.Found.{beside_file}
use Rattle.book_recovery.proofs.JournalSpec.Standings.{CountsNow}
use Rattle.shelf.specs.declared.follower.Follower.{Follower}
use Rattle.shelf.specs.declared.begin.BeginFault.{BeginFault}
use Rattle.shelf.specs.declared.begin.BeginFault.TheVariants as fault
use Rattle.shelf.specs.declared.shelf.Shelf.{Shelf}
use Rattle.shelf.specs.Faults.{IsReadFaultOf, IsTooLong, begin_fault}
use Rattle.file_copies.specs.OfFileNotes.Files.{file_in, IsNoted}
use Rattle.shelf.specs.Files.{KnowsRead}
use Rattle.shelf.specs.Views.{doubt_of, library_in, follows_in, book_in, IsFed, IsInOrder, IsOwnShelf}
use Rattle.shelf.specs.Ranges.{AreInRange}
use Rattle.shelf.specs.Migrating.{bodies_now, making_by, making_now, IsTooLongAnew, IsUnwritten}
use Rattle.shelf.specs.Opening.{making_of, making_on, making_after, now_in_bytes, bodies_after, HasRoomFor, IsTooLongIn, opened_beside, HasAdded, IsMadeOf, IsReadOrRenewed, KeepsRecords, MakesBook, IsOpenedBook, IsFollowerOf, OpensOwn, Renews, CanGoOnWith, HasStatesTold}
use Rattle.shelf.proofs.Openings.{made_there, now_in}
use Rattle.shelf.proofs.OwnOpenings.{opened_own}
use Rattle.shelf.proofs.Known.{settled_newest}

-- ---- the shelf, whose file was read of its journal

module _ {D N : Type 0} (view : D → View) (tells : Bool) (s : Shelf D N) (up : s.down ≡ None) (noted_so : IsNoted s.notes) (now_is : s.journal.format ≡ newest) (known : IsTrue tells → KnowsRead view s.rules.number s.journal s.notes) where
  -- beside what is known of its file
  pub read_is : book_in view s ≡ views.book_of (library_in s) (beside_file (follows_in s) (length_of s.journal) (file_in s.notes)) s.book
  read_is = ap (λ (o : Option _). views.book_of (library_in s) (record { length = length_of s.journal; file = file_in s.notes; down = option_map doubt_of o; follows = follows_in s }) s.book) up

  pub read_there : IsTrue tells → book_in view s ≡ opened_beside view s.rules.number (follows_in s) s.journal s.library s.book
  read_there told = read_is ∙ ap (λ (f : File). views.book_of (library_in s) (beside_file (follows_in s) (length_of s.journal) f) s.book) (known told).file

  pub opened_makes : IsTrue tells → (scripts : List Named) (v : View) (j : Journal D) → making_after s.rules.number v ≡ making_of view s.rules.number j → IsMadeOf view scripts s.rules.number (follows_in s) j s.journal (s.book, s.library)
      → MakesBook scripts s.rules.number v (book_in view s)
  opened_makes told scripts v j same is =
      subst (MakesBook scripts s.rules.number v) (sym (read_there told))
      (made_there scripts s.rules.number (making_after s.rules.number v) (making_of view s.rules.number j) (opened_beside view s.rules.number (follows_in s) s.journal s.library s.book) same is)

  module _ (o : IsOpenedBook s.rules.number (follows_in s) s.book (library_in s)) where
    abbrev pub n : ℕ
    n = length_of s.journal

    abbrev pub f : File
    f = file_in s.notes

    pub opened_again : book_in view s ≡ reopened (book_in view s)
    opened_again = read_is ∙ (o.again n f ∙ ap reopened (sym read_is))

    pub opened_order : AreInRange s.rules → journal.IsSound s.journal → is_broken s.journal ≡ false → (IsTrue tells → CanGoOnWith view s.rules.number (follows_in s) s.journal (s.book, s.library))
        → (IsTrue tells → HasStatesTold view s.rules.number s.journal (s.book, s.library)) → IfSome s.follower (IsFollowerOf view tells s.rules.number s.journal (s.book, s.library)) → IsInOrder view tells s
    opened_order limits sound whole fit told fed = record {
      placed = o.placed;
      kept = o.kept;
      orderly = subst IsOrderly (sym read_is) (o.orderly n f);
      scripts_are = subst HasWholeScripts (sym read_is) (o.whole n f);
      read = o.read;
      range = subst IsInRange (sym read_is) (o.range n f);
      number = o.shelf_is;
      limits = limits;
      few = o.few;
      sound = sound;
      whole = λ _. whole;
      fit = λ t. subst (IsFit view texts s.rules.number s.journal) (sym (read_there t)) (fit t);
      told = λ t _. told t;
      knows = record { newest_is = now_is; noted = noted_so; images = λ t. settled_newest view s.journal ((fit t).settled refl) now_is; records = λ t _. (known t).records };
      fed = fed_of s.follower fed;
    }
      where
        fed_of : (x : Option Follower) → IfSome x (IsFollowerOf view tells s.rules.number s.journal (s.book, s.library)) → IfSome x (IsFed view tells s)
        fed_of None h = tt
        fed_of (Some x) h = record { standing = h.standing; up = up; again = opened_again; fed = h.fed; made = h.made; told = h.told }

  pub opened_is_own : (IsTrue tells → CanGoOnWith view s.rules.number (follows_in s) s.journal (s.book, s.library)) → OpensOwn view s.rules.number s.journal (s.book, s.library) → IsOwnShelf view tells s
  opened_is_own fit own =
      opened_own view tells s now_is (ap (λ (b : Book). b.down) read_is) (λ t. subst (IsFit view texts s.rules.number s.journal) (sym (read_there t)) (fit t)) own

-- ---- at each moment

module _ {D : Type 0} (view : D → View) (scripts : List Named) (shelf : ℕ) (old : D) (j0 j2 : Journal D) (openings : OpeningsStay view) (recoveries : RecoveriesFindOne view) (reads : (view old).images (view old).seen)
    (counts : CountsNow (view_of view j0)) (same : making_on shelf (view old) ≡ making_of view shelf j0) (first : StaysThroughout texts shelf (view old) (view_of view j0)) where
  pub some_there : (before after : Book) (k : Between texts shelf before after) → HoldIn k (view old).images → made_in (making_of view shelf j0) ≢ None
  some_there before after k held none =
      let is : made_in (making_on shelf (view old)) ≡ None = ap made_in same ∙ none in
      ⊎_elim (λ (h : MakesIn texts shelf (view old).seen before). let no : ⊥ = cc (sym is ∙ h.1) in no)
      (λ (h : MakesIn texts shelf (view old).seen after). let no : ⊥ = cc (sym is ∙ h.1) in no)
      (make_books texts shelf before after k (view old).seen (held (view old).seen reads))

  pub still : IsQuiet (view_of view j0) (view_of view j2) → StaysThroughout texts shelf (view old) (view_of view j2)
  still q = λ before after k held.
      let run = first before after k held in
      let now : (image : List ℕ) → (view_of view j0).images image → Held k image = λ image left. run.each image (counts (view old).moment image run.later left) in
      let later : LeavesOnly (view_of view j0) (view_of view j2) (Held k) = record {
        later = q.moments.later;
        each = λ image left. now image (q.moments.each image left);
        before = λ t image le left. ⊎_elim (λ was. inl was) (λ here. inr (now image here)) (q.moments.before t image le left);
      } in
      leaves_then (view old) (view_of view j0) (view_of view j2) (Held k) run later

  renewed : Renews view scripts shelf j0 j2 → OpensThroughout texts shelf scripts (view old) (view_of view j2)
  renewed r =
      let found = (recoveries texts shelf old r.made).0 (ap made_in same ∙ r.found) in
      (openings texts shelf scripts old j0.disk first).1 r.made.book j2.disk found (r.moments.0, r.moments.3)

  pub opens_all : IsReadOrRenewed view scripts shelf j0 j2 → OpensThroughout texts shelf scripts (view old) (view_of view j2)
  opens_all quiet = λ before after k held.
      ⊎_elim (λ q. (openings texts shelf scripts old j2.disk (still q)).0 before after k held) (λ r. renewed r before after k held) (quiet (λ none. some_there before after k held (ap made_in none)) (λ none. some_there before after k held (ap made_in none)))

-- ---- nothing is lost on a disk whose journal was opened

-- a journal of the newest format, which has the records that an opening goes on with
pub keeps_read : {D : Type 0} (view : D → View) (shelf : ℕ) (more : List (List ℕ)) (old : View) (j0 j1 : Journal D) → j0.format ≡ newest → j1.format ≡ newest → IsSettled view j0 → bodies_in view j0 ≡ bodies_after shelf old.seen
    → IsIntactOrEmpty old → HasAdded view more j0 j1 → KeepsRecords shelf more old (view_of view j1)
keeps_read view shelf more old j0 j1 now0 now1 settled is intact (inl (none, (seen, images))) =
    let bodies : bodies_after shelf old.seen ≡ bodies_after shelf old.seen ++ more = sym (append-nil (bodies_after shelf old.seen)) ∙ ap (λ (bs : List (List ℕ)). bodies_after shelf old.seen ++ bs) (sym none) in
    inr (
      intact,
      inl (
        seen ∙ (settled.file ∙ (ap (λ (f : ℕ). at_rest_in f (bodies_in view j0)) now0 ∙ ap at_rest (is ∙ bodies))),
        λ image left. settled.durable image (images image left) ∙ sym seen,
      ),
    )
keeps_read view shelf more old j0 j1 now0 now1 settled is intact (inr (ends, bodies)) =
    inr (
      intact,
      inl (
        ends.file ∙ (ap (λ (f : ℕ). at_rest_in f (bodies_in view j1)) now1 ∙ ap at_rest (bodies ∙ ap (λ (bs : List (List ℕ)). bs ++ more) is)),
        ends.durable,
      ),
    )

-- one that was read, and nothing else
pub keeps_as_read : {D : Type 0} (view : D → View) (shelf : ℕ) (old : View) (j0 j1 : Journal D) → IsSettled view j0 → bodies_in view j0 ≡ stored old.seen → TellsFormat old.seen j0.format → IsIntactOrEmpty old
    → IsUnwritten (view_of view j0) (view_of view j1) → KeepsRecords shelf [] old (view_of view j1)
keeps_as_read view shelf old j0 j1 settled is tells intact quiet =
    inr (
      intact,
      inr (
        refl,
        (
          j0.format,
          (
            tells,
            (
              quiet.0 ∙ (settled.file ∙ ap (at_rest_in j0.format) is),
              λ image left. settled.durable image (quiet.1 image left) ∙ sym quiet.0,
            ),
          ),
        ),
      ),
    )

-- ---- what is left of a disk to whose records nothing was added

-- what goes on with records of the newest format is what they make
pub making_newest : (shelf : ℕ) (bodies : List (List ℕ)) → making_now newest shelf bodies ≡ book_of texts shelf bodies
making_newest shelf bodies = by_made (made_in (book_of_format newest texts shelf bodies))
  where
    by_made : (o : Option Made) → making_by newest shelf bodies o ≡ book_of texts shelf bodies
    by_made None = format_of_now texts shelf bodies
    by_made (Some m) = refl

-- the bytes of a journal at rest
rest_reads : (f : ℕ) (bodies : List (List ℕ)) → is_format f ≡ true → length (at_rest bodies) ≤ 2 ^ 30 → records (at_rest_in f bodies) ≡ Intact bodies
rest_reads f bodies known fits = closed_end f bodies 0 [] known fits (omega (arith))

module _ {D : Type 0} (view : D → View) (shelf : ℕ) (j : Journal D) (s : IsSettled view j) where
  here_reads : records (view_of view j).seen ≡ Intact (bodies_in view j)
  here_reads = ap records s.file ∙ rest_reads j.format (bodies_in view j) s.known (omega (arith, s.fits, s.end))

  pub here_tells : format_of (view_of view j).seen ≡ j.format
  here_tells = ap format_of s.file

  pub now_here : j.format ≡ newest → now_in_bytes shelf (view_of view j).seen ≡ making_of view shelf j
  now_here now =
      now_in shelf (view_of view j).seen (inl here_reads)
      ∙ (ap (λ (f : ℕ). making_now f shelf (bodies_in view j)) (here_tells ∙ now) ∙ making_newest shelf (bodies_in view j))

  here_fits : j.format ≡ newest → HasRoomFor shelf (view_of view j).seen
  here_fits now =
      let same = ap (λ (f : ℕ). length (at_rest (bodies_now f shelf (bodies_in view j)))) (here_tells ∙ now) in
      omega (arith, s.end, s.fits, same)

left_fits : {D : Type 0} (view : D → View) (shelf : ℕ) (j0 j1 : Journal D) → j0.format ≡ newest → j1.format ≡ newest → IsSettled view j0 → HasAdded view [] j0 j1
    → (image : List ℕ) → (view_of view j1).images image → HasRoomFor shelf image
left_fits view shelf j0 j1 now0 now1 settled (inl (none, (seen, images))) image left =
    subst (HasRoomFor shelf) (sym (settled.durable image (images image left))) (here_fits view shelf j0 settled now0)
left_fits view shelf j0 j1 now0 now1 settled (inr (ends, bodies)) image left =
    subst (HasRoomFor shelf) (sym (ends.durable image left)) (here_fits view shelf j1 ends now1)

left_makes : {D : Type 0} (view : D → View) (shelf : ℕ) (j0 j1 : Journal D) → j0.format ≡ newest → j1.format ≡ newest → IsSettled view j0 → HasAdded view [] j0 j1
    → (image : List ℕ) → (view_of view j1).images image → now_in_bytes shelf image ≡ making_of view shelf j0
left_makes view shelf j0 j1 now0 now1 settled (inl (none, (seen, images))) image left =
    ap (now_in_bytes shelf) (settled.durable image (images image left)) ∙ now_here view shelf j0 settled now0
left_makes view shelf j0 j1 now0 now1 settled (inr (ends, bodies)) image left =
    ap (now_in_bytes shelf) (ends.durable image left) ∙ (now_here view shelf j1 ends now1 ∙ ap (book_of texts shelf) (bodies ∙ append-nil (bodies_in view j0)))

-- where there is no room for the setup, there is none on what is left
pub full_still : {D : Type 0} (view : D → View) (scripts : List Named) (shelf : ℕ) (j0 j1 : Journal D) (e : BeginFault) (len : ℕ) → e ≡ fault.Full len → j0.format ≡ newest → j1.format ≡ newest
    → IsSettled view j0 → HasAdded view [] j0 j1 → IsReadFaultOf scripts shelf (making_of view shelf j0) e
    → (image : List ℕ) → (view_of view j1).images image → IsTooLongIn scripts shelf image len
full_still view scripts shelf j0 j1 e len is now0 now1 settled added told image left =
    inr (record {
      fits = left_fits view shelf j0 j1 now0 now1 settled added image left;
      setup = subst (λ (m : Making). IsTooLong scripts shelf m len) (sym (left_makes view shelf j0 j1 now0 now1 settled added image left))
          (subst (IsReadFaultOf scripts shelf (making_of view shelf j0)) is told);
    })

-- so it is where there is no room for what stays
pub anew_still : {D : Type 0} (view : D → View) (scripts : List Named) (shelf : ℕ) (j0 j1 : Journal D) (len : ℕ) → IsSettled view j0 → IsUnwritten (view_of view j0) (view_of view j1) → IsTooLongAnew j0.format shelf (bodies_in view j0) len
    → (image : List ℕ) → (view_of view j1).images image → IsTooLongIn scripts shelf image len
anew_still view scripts shelf j0 j1 len settled quiet long image left =
    let is : image ≡ (view_of view j0).seen = settled.durable image (quiet.1 image left) in
    subst (λ (bytes : List ℕ). IsTooLongIn scripts shelf bytes len) (sym is)
    (inl (subst (λ (f : ℕ). IsTooLongAnew f shelf (bodies_in view j0) len) (sym (here_tells view shelf j0 settled)) long))

-- no fault of a journal's opening tells this
pub never_full : (why : JournalFault) (len : ℕ) → begin_fault why ≡ fault.Full len → ⊥
never_full (journal_fault.Damaged place) len is = let no : ⊥ = cc is in no
never_full journal_fault.DiskFault len is = let no : ⊥ = cc is in no
never_full journal_fault.Memory len is = let no : ⊥ = cc is in no
