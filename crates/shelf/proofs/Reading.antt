-- An opening goes on after the reading of a journal.
use Rattle.std.proofs.Common.{◌≡◌, inl, inr, ⊎_elim, ℕ, Bool, true, false, List, ◌++◌, Some, Result, Err, IfOk, IsTrue, refl, sym, ◌∙◌, ap, subst, arith}
use Rattle.book_recovery.specs.SetupReader.Texts.{setup_of_texts as texts}
use Rattle.script_nodes.specs.Setup.{Named, Library}
use Rattle.script_nodes.specs.declared.library.Library as kept
use Rattle.web_disk.specs.View.{View}
use Rattle.page_journal.specs.Records.{newest, stored}
use Rattle.page_journal.specs.Holding.{IsClosed}
use Rattle.page_journal.specs.Scanned.{IsQuiet}
use Rattle.page_journal.specs.Settled.{HasFailed, IsSettled, view_of, bodies_in, length_of}
use Rattle.page_journal.specs.declared.journal.Journal.{Journal}
use Rattle.page_journal.proofs.Mending.{leaves_then}
use Rattle.page_journal.proofs.Scans.{quiet_then}
use Rattle.book_recovery.specs.JournalSpec.Before.{Made}
use Rattle.book_recovery.specs.JournalSpec.Reading.{AreAllBytes}
use Rattle.book_recovery.specs.JournalSpec.Old.{book_of_format, format_of_now}
use Rattle.book_recovery.specs.JournalSpec.Making.{Making, nothing, waits, waited, begun, made, damaged, other, waiting, made_in, book_of}
use Rattle.file_copies.specs.OfFileNotes.declared.notes.FileNotes.{FileNotes}
use Rattle.file_copies.specs.OfFileNotes.Files as noted
use Rattle.book_recovery.specs.Noting.{marks_of, IsFileOf, WhereMade, NotesFile}
use Rattle.shelf.specs.Files.{file_in, KnowsRead}
use Rattle.book_recovery.specs.JournalSpec.Opening.{opened_on}
use Rattle.book_recovery.specs.JournalSpec.Owning.{AreOwn}
use Rattle.book_recovery.specs.JournalSpec.Standing.{IsMadeBook, Hold, Held}
use Rattle.book_recovery.proofs.JournalSpec.Standings.{closed_holds}
use Rattle.book_recovery.specs.InstanceBook.declared.book.Book.{Book as RustBook}
use Rattle.book_recovery.specs.declared.found.Found.{Found}
use Rattle.std.proofs.lemmas.Option.{same_Some}
use Rattle.replay_spec.specs.Book.{Book}
use Rattle.book_recovery.specs.InstanceBook.declared.in_order.InOrder.{InOrder}
use Rattle.book_recovery.specs.Found.{FindsBook, Finds}
use Rattle.book_recovery.specs.Reading.{IsMadeAs}
use Rattle.shelf.specs.Opening.{making_of, opened_beside, added_by, HasOwnRecords, Opens, Renews, HasAdded}
use Rattle.shelf.specs.Faults.{IsReadFault, IsReadFaultOf}
use Rattle.shelf.specs.Owning.{HoldsOwnRecords, StaysOwnThroughout}
use Rattle.shelf.specs.declared.begin.BeginFault.{BeginFault}
use Rattle.shelf.specs.declared.begin.BeginFault.TheVariants as fault
use Rattle.shelf.proofs.Openings.{quiet_leaves}
use Rattle.shelf.proofs.OwnOpenings.{read_moments}
use Rattle.shelf.proofs.Newest.{newest_images}

module _ {D : Type 0} (view : D → View) (tells : Bool) (scripts : List Named) (shelf : ℕ) (j0 j1 : Journal D) (now_is : j0.format ≡ newest) (settled : IsTrue tells → IsSettled view j0) (quiet : IsQuiet (view_of view j0) (view_of view j1)) where
  bodies_same : bodies_in view j1 ≡ bodies_in view j0
  bodies_same = ap stored quiet.seen

  pub making_same : making_of view shelf j1 ≡ making_of view shelf j0
  making_same = ap (book_of texts shelf) bodies_same

  pub own_after : HasOwnRecords view shelf j0 → HasOwnRecords view shelf j1
  own_after own = subst (AreOwn texts shelf) (sym bodies_same) own

  pub found_after : (fed : Bool) (b : RustBook) (lib : Library) → length_of j1 ≡ length_of j0 → FindsBook shelf (length_of j0) fed b lib (making_of view shelf j0) → FindsBook shelf (length_of j1) fed b lib (making_of view shelf j1)
  found_after fed b lib len finds =
      subst (λ (n : ℕ). FindsBook shelf n fed b lib (making_of view shelf j1)) (sym len) (subst (FindsBook shelf (length_of j0) fed b lib) (sym making_same) finds)

  own_read : IsTrue tells → HasOwnRecords view shelf j0 → StaysOwnThroughout shelf (view_of view j0) (view_of view j1)
  own_read told own = read_moments view shelf j0 j1 now_is (settled told) own quiet

  -- nothing was written, and nothing more is done
  pub read_refused : (fed : Bool) (e : BeginFault) → (IsTrue tells → IsReadFaultOf scripts shelf (making_of view shelf j0) e) → (e ≡ fault.DiskFault → HasFailed (view_of view j0) (view_of view j1)) → Opens view tells scripts shelf fed j0 j1 (Err e)
  read_refused fed e refused cause = record {
    begun = λ told. tt;
    fit = λ told. tt;
    told = λ told. tt;
    in_order = tt;
    setup = λ leads. tt;
    own_moments = λ told own. own_read told own;
    refused = refused;
    quiet = λ told some other. inl quiet;
    keeps = λ told no. inl (refl, (quiet.seen, quiet.images));
    cause = λ h. cause (let is : e ≡ fault.DiskFault = cc h in is);
    later = quiet.faults;
  }

  -- what is done then
  module _ (fed : Bool) (j2 : Journal D) (result : Result (RustBook × kept.Library) BeginFault) (next : Opens view tells scripts shelf fed j1 j2 result) where
    adds_then : (more : List (List ℕ)) → HasAdded view more j1 j2 → HasAdded view more j0 j2
    adds_then more (inl (none, (seen, images))) = inl (none, (seen ∙ quiet.seen, λ image left. quiet.images image (images image left)))
    adds_then more (inr (ends, bodies)) = inr (ends, bodies ∙ ap (λ (bs : List (List ℕ)). bs ++ more) bodies_same)

    renews_then : IsTrue tells → Renews view scripts shelf j1 j2 → Renews view scripts shelf j0 j2
    renews_then told r =
        let k = r.moments.0 in
        let holds : (image : List ℕ) → (view_of view j0).images image → Held k image = λ image left. subst (λ (f : ℕ). Hold f k.bodies k.flight image) (sym r.moments.1) (closed_holds newest k.bodies k.flight image (subst (λ (bs : List (List ℕ)). IsClosed newest bs image) (sym (r.moments.2 ∙ bodies_same)) (newest_images view j0 (settled told) now_is image left))) in
        record {
          made = r.made;
          found = sym (ap made_in making_same) ∙ r.found;
          moments = (k, r.moments.1, r.moments.2 ∙ bodies_same, quiet_leaves (view_of view j0) (view_of view j1) (view_of view j2) (Held k) quiet holds r.moments.3);
        }

    pub opens_after : Opens view tells scripts shelf fed j0 j2 result
    opens_after = record {
      begun = λ told. subst (λ (m : Making). IfOk result (λ o. IsMadeBook (opened_on shelf scripts m) (opened_beside view shelf fed j2 o.1 o.0))) making_same (next.begun told);
      fit = next.fit;
      told = next.told;
      in_order = next.in_order;
      setup = next.setup;
      own_moments = λ told own.
          leaves_then (view_of view j0) (view_of view j1) (view_of view j2) (HoldsOwnRecords shelf) (own_read told own) (next.own_moments told (own_after own));
      refused = λ told. subst (λ (m : Making). IsReadFault scripts shelf m result) making_same (next.refused told);
      quiet = λ told some other.
          ⊎_elim (λ q. inl (quiet_then (view_of view j0) (view_of view j1) (view_of view j2) quiet q)) (λ r. inr (renews_then told r))
          (next.quiet told (λ none. some (sym making_same ∙ none)) (λ none. other (sym making_same ∙ none)));
      keeps = λ told no. adds_then (added_by scripts shelf (making_of view shelf j0) result)
          (subst (λ (m : Making). HasAdded view (added_by scripts shelf m result) j1 j2) making_same (next.keeps told no));
      cause = λ h. omega (arith, next.cause h, quiet.faults);
      later = omega (arith, next.later, quiet.faults);
    }

-- what is found of a journal of the newest format
pub found_at : {D : Type 0} (view : D → View) (shelf : ℕ) (j : Journal D) → j.format ≡ newest → (fed : Bool) (f : Found) → Finds shelf (length_of j) fed f (book_of_format j.format texts shelf (bodies_in view j)) → Finds shelf (length_of j) fed f (making_of view shelf j)
found_at view shelf j now fed f finds =
    subst (Finds shelf (length_of j) fed f) (ap (λ (k : ℕ). book_of_format k texts shelf (bodies_in view j)) now ∙ format_of_now texts shelf (bodies_in view j)) finds

-- a book of a shelf that does not follow is none of one that waits
pub none_waits : {D : Type 0} (view : D → View) (shelf : ℕ) (j : Journal D) (b : RustBook) (lib : Library) → FindsBook shelf (length_of j) false b lib (making_of view shelf j) → (s : ℕ) → making_of view shelf j ≡ waits s → ⊥
none_waits view shelf j b lib finds s is =
    let at : waiting s ≡ finds.whole = same_Some (waiting s) finds.whole (sym (ap made_in is) ∙ finds.is) in
    let no : true ≡ false = ap (λ (m : Made). m.book.follows) at ∙ ap (λ (y : Book). y.follows) finds.book in
    cc no

-- nor is what records of a setup made
pub none_waits_fed : {D : Type 0} (view : D → View) (shelf n : ℕ) (j : Journal D) (alone : Bool) (b : RustBook) (lib : Library) (seen : InOrder (Unit {0})) → IsMadeAs shelf n true alone b lib seen (making_of view shelf j)
    → (s : ℕ) → making_of view shelf j ≡ waits s → ⊥
none_waits_fed view shelf n j true b lib seen m s is = let no : begun m.whole ≡ waits s = sym m.is ∙ is in cc no
none_waits_fed view shelf n j false b lib seen m s is = let no : made m.whole ≡ waits s = sym m.is ∙ is in cc no

-- what is known of it, where its records make a book
pub known_file : {D : Type 0} (view : D → View) (shelf : ℕ) (j : Journal D) (notes : FileNotes) → {fed : Bool} (b : RustBook) (lib : Library) → FindsBook shelf (length_of j) fed b lib (making_of view shelf j) → ((s : ℕ) → making_of view shelf j ≡ waits s → ⊥)
    → NotesFile newest shelf (bodies_in view j) notes (making_of view shelf j) → KnowsRead view shelf j notes
known_file view shelf j notes b lib finds others known = record {
  records = record { marks = known.marks; bytes = known.bytes };
  file = by_making (making_of view shelf j) finds.whole finds.is others known.file ∙ sym (ap file_in finds.is);
}
  where
    by_making : (m : Making) (w : Made) → made_in m ≡ Some w → ((s : ℕ) → m ≡ waits s → ⊥) → IsFileOf notes m → noted.file_in notes ≡ w.book.file
    by_making nothing w made_is others file = absurd (let no : ⊥ = cc made_is in no)
    by_making waited w made_is others file = absurd (let no : ⊥ = cc made_is in no)
    by_making (waits s) w made_is others file = absurd (others s refl)
    by_making (begun y) w made_is others file = file ∙ ap (λ (z : Made). z.book.file) (let same : y ≡ w = cc made_is in same)
    by_making (made y) w made_is others file = file ∙ ap (λ (z : Made). z.book.file) (let same : y ≡ w = cc made_is in same)
    by_making (damaged p) w made_is others file = absurd (let no : ⊥ = cc made_is in no)
    by_making (other p) w made_is others file = absurd (let no : ⊥ = cc made_is in no)

-- what was read of a journal of the newest format
pub noted_at : {D : Type 0} (view : D → View) (shelf : ℕ) (j : Journal D) (notes : FileNotes) (x : Found) → j.format ≡ newest → WhereMade x (NotesFile j.format shelf (bodies_in view j) notes (book_of_format j.format texts shelf (bodies_in view j)))
    → WhereMade x (NotesFile newest shelf (bodies_in view j) notes (making_of view shelf j))
noted_at view shelf j notes x now known =
    let bodies = bodies_in view j in
    let P : ℕ → Making → Type 0 = λ k m. WhereMade x (NotesFile k shelf bodies notes m) in
    subst (P newest) (format_of_now texts shelf bodies) (subst (λ (k : ℕ). P k (book_of_format k texts shelf bodies)) now known)

-- it goes on to be known after a call that wrote nothing
pub known_after : {D : Type 0} (view : D → View) (shelf : ℕ) (j0 j1 : Journal D) (notes : FileNotes) → IsQuiet (view_of view j0) (view_of view j1) → KnowsRead view shelf j0 notes → KnowsRead view shelf j1 notes
known_after view shelf j0 j1 notes quiet known =
    let these : bodies_in view j0 ≡ bodies_in view j1 = ap stored (sym quiet.seen) in
    record {
      records = record {
        marks = known.records.marks ∙ ap (λ (bs : List (List ℕ)). marks_of newest texts shelf 8 bs nothing) these;
        bytes = subst AreAllBytes these known.records.bytes;
      };
      file = known.file ∙ ap (λ (bs : List (List ℕ)). file_in (made_in (book_of texts shelf bs))) these;
    }
