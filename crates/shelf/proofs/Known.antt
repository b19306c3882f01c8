-- What is known of a journal's file goes on to be so.
use Rattle.std.proofs.Common.{◌≡◌, inl, inr, ◌∙◌, ap, sym, subst, ℕ, ◌+◌, Bool, true, false, IsTrue, List, [], ◌∷◌, ◌++◌, length, map, Option, Some, None, is_some, nat_le, refl, append_assoc, arith}
use Rattle.std.specs.Prelude.{nat_lt}
use Rattle.std.proofs.lemmas.Bool.Decides.{nat_tests}
use Rattle.std.proofs.lemmas.List.{append-nil}
use Rattle.script_value.specs.declared.outcome.TxName.{TxName}
use Rattle.book_recovery.specs.SetupReader.Texts.{setup_of_texts as texts}
use Rattle.web_disk.specs.View.{View, LeavesOnly}
use Rattle.value_bytes.specs.Laws.{AreBytes}
use Rattle.page_journal.specs.Records.{newest, stored, format_of}
use Rattle.page_journal.specs.Holding.{MayHold, IsEither}
use Rattle.page_journal.specs.Settled.{IsSettled, bodies_in}
use Rattle.page_journal.specs.declared.journal.Journal.{Journal}
use Rattle.replay_spec.specs.Admission.{when}
use Rattle.replay_spec.specs.Book.{Change, sweeps, Book}
use Rattle.journal_records.specs.Records.{changes, IsInGrammar}
use Rattle.journal_records.specs.Laws.{AreRecordsExact}
use Rattle.journal_records.specs.Old.{read_record_in}
use Rattle.book_recovery.specs.JournalSpec.Before.{Earlier, Made, made_of}
use Rattle.book_recovery.specs.JournalSpec.Retaking.{Told, unread, misread, told, told_in, landing}
use Rattle.book_recovery.specs.JournalSpec.Making.{Making, nothing, waits, waited, begun, made, damaged, other, waiting, made_in}
use Rattle.book_recovery.specs.JournalSpec.Old.{landing_told, with_body_at, with_bodies_at, book_of_format, format_of_now}
use Rattle.book_recovery.specs.JournalSpec.Keeping.{IsTakenAs, IsTaken, Keeps, body_by}
use Rattle.book_recovery.proofs.JournalSpec.Taking.{IsNew, moved_in, there}
use Rattle.book_recovery.specs.JournalSpec.Reading.{AreAllBytes}
use Rattle.book_recovery.proofs.JournalSpec.Between.{closed_format, may_format}
use Rattle.file_copies.specs.OfFileNotes.declared.notes.FileNotes.{FileNotes}
use Rattle.file_copies.specs.OfFileNotes.Files.{marks_in, IsNoted, StaysAsTold}
use Rattle.file_copies.specs.OfFileNotes.Notes.{is_told}
use Rattle.book_recovery.specs.Noting.{mark_by, mark_in, marks_of}
use Rattle.book_recovery.proofs.JournalSpec.Standings.{CountsNow}
use Rattle.shelf.specs.Files.{KnowsFile, LeavesNewest}
use Rattle.shelf.proofs.Newest.{newest_images}
use Rattle.shelf.proofs.Standing.{IsQuietCall}

-- ---- the marks of records, with one more

pub bodies_more : (format shelf place : ℕ) (bodies : List (List ℕ)) (body : List ℕ) (x : Making)
    → marks_of format texts shelf place (bodies ++ body ∷ []) x ≡ marks_of format texts shelf place bodies x ++ mark_in format (with_bodies_at format texts shelf place bodies x) body
bodies_more format shelf place [] body x = append-nil (mark_in format x body)
bodies_more format shelf place (b ∷ bodies) body x =
    ap (λ (ts : List Bool). mark_in format x b ++ ts) (bodies_more format shelf (place + 5 + length b) bodies body (with_body_at format texts shelf place b x))
    ∙ sym (append_assoc (mark_in format x b) (marks_of format texts shelf (place + 5 + length b) bodies (with_body_at format texts shelf place b x))
    (mark_in format (with_bodies_at format texts shelf (place + 5 + length b) bodies (with_body_at format texts shelf place b x)) body))

-- what makes a book is begun or made
pub mark_made : (m : Made) (x : Making) (body : List ℕ) → m.book.follows ≡ false → made_in x ≡ Some m → mark_in newest x body ≡ mark_by newest m (read_record_in newest body)
mark_made m nothing body leads e = absurd (let no : ⊥ = cc e in no)
mark_made m waited body leads e = absurd (let no : ⊥ = cc e in no)
mark_made m (waits s) body leads e =
    let at : waiting s ≡ m = cc e in
    let no : true ≡ false = ap (λ (y : Made). y.book.follows) at ∙ leads in absurd (cc no)
mark_made m (begun k) body leads e = ap (λ (y : Made). mark_by newest y (read_record_in newest body)) (same_made k m e)
  where
    same_made : (k m : Made) → made_in (begun k) ≡ Some m → k ≡ m
    same_made k m f = cc f
mark_made m (made k) body leads e = ap (λ (y : Made). mark_by newest y (read_record_in newest body)) (same_made k m e)
  where
    same_made : (k m : Made) → made_in (made k) ≡ Some m → k ≡ m
    same_made k m f = cc f
mark_made m (damaged p) body leads e = absurd (let no : ⊥ = cc e in no)
mark_made m (other p) body leads e = absurd (let no : ⊥ = cc e in no)

-- a record that lands is marked
lands_so : (b : Book) (earlier : Earlier) (c : Change) (inside : List TxName) (x : Told) → IsNew earlier.seen c → IsTakenAs b c inside x → is_some (landing_told (made_of b earlier) c x) ≡ true
lands_so b earlier c inside unread new taken = ap (λ (o : Option (List TxName)). is_some o) (there b earlier c [] taken.0 new)
lands_so b earlier c inside misread new taken = absurd taken
lands_so b earlier c inside (told d) new taken =
    ap (λ (ns : List TxName). is_some (landing (made_of b earlier) c ns)) taken.1 ∙ ap (λ (o : Option (List TxName)). is_some o) (there b earlier c inside taken.0 new)

pub marked : AreRecordsExact → (shelf : ℕ) (bodies : List (List ℕ)) (b : Book) (c : Change) (state : Option (List ℕ)) (inside : List TxName) (k : Keeps texts shelf bodies b) → IsInGrammar (changes c state)
    → IsTaken k.earlier b c state inside → IsNew k.earlier.seen c → b.follows ≡ false
    → marks_of newest texts shelf 8 (bodies ++ body_by c state ∷ []) nothing ≡ marks_of newest texts shelf 8 bodies nothing ++ true ∷ []
marked exact shelf bodies b c state inside k fits taken new leads =
    let m = made_of b k.earlier in
    let x = told_in k.earlier b c state in
    let body = body_by c state in
    let reads : read_record_in newest body ≡ Some (changes c state) = exact.newest body ∙ exact.back (changes c state) fits in
    let lands : is_some (landing_told m c (told_in m.earlier m.book c state)) ≡ true =
    ap (λ (y : Told). is_some (landing_told m c y)) (moved_in k.earlier b b.logged [] None c state) ∙ lands_so b k.earlier c inside x new taken in
    bodies_more newest shelf 8 bodies body nothing
    ∙ ap (λ (ts : List Bool). marks_of newest texts shelf 8 bodies nothing ++ ts)
    (mark_made m (book_of_format newest texts shelf bodies) body leads (ap made_in (format_of_now texts shelf bodies) ∙ k.makes) ∙ (ap (mark_by newest m) reads ∙ ap (λ (t : Bool). t ∷ []) lands))

-- so is a later tick
pub marked_tick : AreRecordsExact → (shelf : ℕ) (bodies : List (List ℕ)) (b : Book) (tick : ℕ) → nat_le tick b.clock ≡ false → Keeps texts shelf bodies b → IsInGrammar (changes (sweeps tick) None) → b.follows ≡ false
    → marks_of newest texts shelf 8 (bodies ++ body_by (sweeps tick) None ∷ []) nothing ≡ marks_of newest texts shelf 8 bodies nothing ++ true ∷ []
marked_tick exact shelf bodies b tick late k fits leads =
    let over : nat_lt b.clock tick ≡ true = grind (arith, nat_tests, late) in
    marked exact shelf bodies b (sweeps tick) None [] k fits (ap (λ (t : Bool). when t []) over, refl) (λ n e. absurd e) leads

pub bytes_more : (bodies : List (List ℕ)) (body : List ℕ) → AreAllBytes bodies → AreBytes body → AreAllBytes (bodies ++ body ∷ [])
bytes_more [] body all one = (one, tt)
bytes_more (b ∷ bodies) body all one = (all.0, bytes_more bodies body all.1 one)

-- ---- what is known, by the calls of the journal

pub told_still : (notes : FileNotes) → StaysAsTold notes notes
told_still notes = record { file = refl; notes = refl; head = refl; drawn = refl }

-- what a crash leaves of a settled journal of the newest format
pub settled_newest : {D : Type 0} (view : D → View) (j : Journal D) → IsSettled view j → j.format ≡ newest → LeavesNewest (view j.disk)
settled_newest view j settled now image left = closed_format newest (bodies_in view j) image (newest_images view j settled now image left)

-- what a crash leaves of one whose last call may have added a record
pub may_newest : (v w : View) (bodies : List (List ℕ)) (body : List ℕ) → CountsNow w → LeavesOnly v w (MayHold newest bodies body) → LeavesNewest w
may_newest v w bodies body counts run image left = may_format newest bodies body image (run.each image (counts v.moment image run.later left))

-- what a crash leaves of one whose file may have been replaced
pub either_newest : (bodies others : List (List ℕ)) (image : List ℕ) → IsEither newest newest bodies others image → format_of image ≡ newest
either_newest bodies others image (inl old) = closed_format newest bodies image old
either_newest bodies others image (inr new) = closed_format newest others image new

-- after a call that writes nothing
pub known_quiet : {D : Type 0} (view : D → View) (tells : Bool) (shelf : ℕ) (old new : Journal D) (up_old up_new : Type 0) (before after : FileNotes) → KnowsFile view tells shelf old up_old before → IsQuietCall view tells old new → StaysAsTold before after
    → IsNoted after → (up_new → up_old) → KnowsFile view tells shelf new up_new after
known_quiet view tells shelf old new up_old up_new before after k call stays noted still = record {
  newest_is = call.format ∙ k.newest_is;
  noted = noted;
  images = λ told image left. k.images told image (call.images image left);
  records = λ told up.
      let r = k.records told (still up) in
      let these : bodies_in view old ≡ bodies_in view new = ap stored (sym call.seen) in
      record {
        marks = ap (map is_told) stays.notes ∙ (r.marks ∙ ap (λ (bs : List (List ℕ)). marks_of newest texts shelf 8 bs nothing) these);
        bytes = subst AreAllBytes these r.bytes;
      };
}

-- where it is in doubt whether a record was added
pub known_doubted : {D : Type 0} (view : D → View) (tells : Bool) (shelf : ℕ) (new : Journal D) (up : Type 0) (notes : FileNotes) → new.format ≡ newest → IsNoted notes → (IsTrue tells → LeavesNewest (view new.disk)) → (up → ⊥)
    → KnowsFile view tells shelf new up notes
known_doubted view tells shelf new up notes now noted images in_doubt = record { newest_is = now; noted = noted; images = images; records = λ told there. absurd (in_doubt there) }

-- after a record that was added and is one that recovery takes
pub known_added : {D : Type 0} (view : D → View) (tells : Bool) (shelf : ℕ) (old mid new : Journal D) (up_old up_new : Type 0) (before after : FileNotes) (body : List ℕ) → KnowsFile view tells shelf old up_old before → up_old
    → IsQuietCall view tells old mid → new.format ≡ newest → IsNoted after → marks_in after ≡ marks_in before ++ true ∷ [] → AreBytes body
    → (IsTrue tells → IsSettled view new × (bodies_in view new ≡ bodies_in view mid ++ body ∷ []))
    → (IsTrue tells → marks_of newest texts shelf 8 (bodies_in view old ++ body ∷ []) nothing ≡ marks_of newest texts shelf 8 (bodies_in view old) nothing ++ true ∷ [])
    → KnowsFile view tells shelf new up_new after
known_added view tells shelf old mid new up_old up_new before after body k up call now noted marks bytes added landed = record {
  newest_is = now;
  noted = noted;
  images = λ told. settled_newest view new (added told).0 now;
  records = λ told there.
      let r = k.records told up in
      let these : bodies_in view old ++ body ∷ [] ≡ bodies_in view new = ap (λ (bs : List (List ℕ)). bs ++ body ∷ []) (sym (ap stored call.seen)) ∙ sym (added told).1 in
      record {
        marks = marks ∙ (ap (λ (ts : List Bool). ts ++ true ∷ []) r.marks ∙ (sym (landed told) ∙ ap (λ (bs : List (List ℕ)). marks_of newest texts shelf 8 bs nothing) these));
        bytes = subst AreAllBytes these (bytes_more (bodies_in view old) body r.bytes bytes);
      };
}
