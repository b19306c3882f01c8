-- What stays by what is known of a file's records is what the compaction of its book leaves, in any format of the file.
use Rattle.std.proofs.Common.{◌≡◌, ◌∙◌, ap, sym, subst, refl, ℕ, zero, suc, ◌+◌, ◌≤◌, ◌==◌, ◌&&◌, Bool, true, false, not, List, [], ◌∷◌, ◌++◌, length, map, filter, Option, Some, None, is_some, if◌then◌else◌, append_assoc, length-append, arith}
use Rattle.std.specs.Prelude.{⊤}
use Rattle.std.proofs.lemmas.List.{append-nil}
use Rattle.std.specs.List.{AllByRecursion}
use Rattle.std.proofs.lemmas.Bool.Decides.{nat_tests}
use Rattle.std.proofs.lemmas.Option.{none-some}
use Rattle.value_bytes.specs.Laws.{AreBytes}
use Rattle.script_value.specs.declared.outcome.TxName.{TxName}
use Rattle.script_nodes.specs.Setup.{Named}
use Rattle.book_recovery.specs.SetupReader.Texts.{setup_of_texts as texts}
use Rattle.page_journal.specs.Records.{newest, framed, frames, at_rest}
use Rattle.page_journal.proofs.Frames.{length-framed, length-at_rest}
use Rattle.replay_spec.specs.Book.{Instance, Change, opens, extends, ends, finishes, sweeps, Line, changed, renewed, File}
use Rattle.replay_spec.specs.Compaction.{stays, is_sweep, last_sweeps, lines_length, compaction, file_length}
use Rattle.journal_records.specs.Records.{Record, begins, changes, renews, draws, follows, promotes, body_of}
use Rattle.journal_records.specs.Roles.{is_role, behind_front}
use Rattle.journal_records.proofs.Roles.{role_is}
use Rattle.journal_records.specs.Old.{read_record_in}
use Rattle.book_recovery.specs.JournalSpec.Before.{Made}
use Rattle.book_recovery.specs.JournalSpec.Making.{Making, nothing, waits, waited, begun, made, waiting, began, first_by, start_by, fed_by, with_drawn, made_in}
use Rattle.book_recovery.specs.JournalSpec.Old.{next_at, second_at, with_body_at, with_bodies_at, book_of_format}
use Rattle.book_recovery.specs.JournalSpec.Reading.{AreAllBytes}
use Rattle.book_recovery.specs.JournalSpec.Copying.{Entry, tells, settles, body_in, line_of, state_now, body_now, entry_by, entry_in, entries, entry_ahead, entries_joined, first_body_of, copies}
use Rattle.book_recovery.proofs.JournalSpec.Walking.{Step, turns, lands, passes, frees, moved}
use Rattle.book_recovery.proofs.JournalSpec.Copying.{First, first_is}
use Rattle.book_recovery.proofs.JournalSpec.Joining.{lines_joined}
use Rattle.file_copies.specs.OfFileNotes.declared.note.Note.{Note}
use Rattle.file_copies.specs.OfFileNotes.declared.notes.FileNotes.{FileNotes}
use Rattle.file_copies.specs.OfFileNotes.Files.{file_in, marks_in, IsNoted, IsPicked}
use Rattle.file_copies.specs.OfFileNotes.Notes.{note_of, is_told, is_time, stays_note, time_next, plan_in, picked}
use Rattle.file_copies.proofs.OfFileNotes.Plans.{note_stays, note_time, untold_goes, plan_picks}
use Rattle.file_copies.specs.Copies.{others_of, copied}
use Rattle.book_recovery.specs.Anew.{IsOfLanding, IsAnewBy, IsAnewIn, AreAnew}
use Rattle.book_recovery.specs.Noting.{mark_by, mark_in, marks_of}
use Rattle.shelf.proofs.Roles.{IsOlder, tells_none}

-- ---- records that have a note, each with its entry, if recovery takes it

-- a record that recovery takes: what is written of it, and its line, which is as long as it was
record Kept : Type 0 where
  entry : Entry
  line : Line
  stays_alike : (ls : List Instance) → stays ls line ≡ stays ls (line_of entry)
  time_alike : is_sweep line ≡ is_sweep (line_of entry)

abbrev entries_in : List (Option Kept) → List Entry
entries_in [] = []
entries_in (None ∷ os) = entries_in os
entries_in (Some k ∷ os) = k.entry ∷ entries_in os

abbrev lines_in : List (Option Kept) → List Line
lines_in [] = []
lines_in (None ∷ os) = lines_in os
lines_in (Some k ∷ os) = k.line ∷ lines_in os

-- those that stay in the compacted file of a book with these instances
abbrev staying : List Instance → List Entry → List Entry
staying ls [] = []
staying ls (e ∷ es) = if stays ls (line_of e) then e ∷ staying ls es else staying ls es

-- the note is that of the record, or of one that is passed over
abbrev IsNoteOf : Note → Option Kept → Type 0
IsNoteOf n None = is_told n ≡ false
IsNoteOf n (Some k) = n ≡ note_of k.line

abbrev AreNotesOf : List Note → List (Option Kept) → Type 0
AreNotesOf [] [] = ⊤
AreNotesOf [] (o ∷ os) = ⊥
AreNotesOf (n ∷ ns) [] = ⊥
AreNotesOf (n ∷ ns) (o ∷ os) = IsNoteOf n o × AreNotesOf ns os

-- the body is what is written of the record
abbrev IsBodyOf : List ℕ → Option Kept → Type 0
IsBodyOf body None = ⊤
IsBodyOf body (Some k) = body_in k.entry ≡ body

abbrev AreBodiesOf : List (List ℕ) → List (Option Kept) → Type 0
AreBodiesOf [] [] = ⊤
AreBodiesOf [] (o ∷ os) = ⊥
AreBodiesOf (b ∷ bs) [] = ⊥
AreBodiesOf (b ∷ bs) (o ∷ os) = IsBodyOf b o × AreBodiesOf bs os

-- ---- the notes are those of the records

first_mark : (t u : Bool) (ts us : List Bool) → t ∷ ts ≡ u ∷ us → t ≡ u
first_mark t u ts us e = cc e

later_marks : (t u : Bool) (ts us : List Bool) → t ∷ ts ≡ u ∷ us → ts ≡ us
later_marks t u ts us e = cc e

first_note : (n k : Note) (ns ks : List Note) → n ∷ ns ≡ k ∷ ks → n ≡ k
first_note n k ns ks e = cc e

later_notes : (n k : Note) (ns ks : List Note) → n ∷ ns ≡ k ∷ ks → ns ≡ ks
later_notes n k ns ks e = cc e

notes_are : (ns : List Note) (os : List (Option Kept)) → map is_told ns ≡ map is_some os → filter is_told ns ≡ map note_of (lines_in os) → AreNotesOf ns os
notes_are [] [] marks told = tt
notes_are [] (o ∷ os) marks told = absurd (let no : ⊥ = cc marks in no)
notes_are (n ∷ ns) [] marks told = absurd (let no : ⊥ = cc marks in no)
notes_are (n ∷ ns) (None ∷ os) marks told =
    let off : is_told n ≡ false = first_mark (is_told n) false (map is_told ns) (map is_some os) marks in (
      off,
      notes_are ns os (later_marks (is_told n) false (map is_told ns) (map is_some os) marks)
          (sym (ap (λ (t : Bool). if t then n ∷ filter is_told ns else filter is_told ns) off) ∙ told),
    )
notes_are (n ∷ ns) (Some k ∷ os) marks told =
    let on : is_told n ≡ true = first_mark (is_told n) true (map is_told ns) (map is_some os) marks in
    let here : n ∷ filter is_told ns ≡ note_of k.line ∷ map note_of (lines_in os) =
    sym (ap (λ (t : Bool). if t then n ∷ filter is_told ns else filter is_told ns) on) ∙ told in (
      first_note n (note_of k.line) (filter is_told ns) (map note_of (lines_in os)) here,
      notes_are ns os (later_marks (is_told n) true (map is_told ns) (map is_some os) marks) (later_notes n (note_of k.line) (filter is_told ns) (map note_of (lines_in os)) here),
    )

-- ---- what is planned is what stays

abbrev starts : List Entry → Bool
starts [] = false
starts (e ∷ es) = is_sweep (line_of e)

starts_ahead : (e : Entry) (es : List Entry) → starts (entry_ahead e es) ≡ is_sweep (line_of e)
starts_ahead e [] = refl
starts_ahead e (f ∷ es) = by_test (is_sweep (line_of e)) (is_sweep (line_of f)) refl refl
  where
    by_test : (s t : Bool) → is_sweep (line_of e) ≡ s → is_sweep (line_of f) ≡ t → starts (if s && t then f ∷ es else e ∷ f ∷ es) ≡ s
    by_test true true p q = q
    by_test true false p q = p
    by_test false t p q = p

abbrev kept : List Instance → List (Option Kept) → List Entry
kept ls os = entries_joined (staying ls (entries_in os))

kept_on : (ls : List Instance) (k : Kept) (os : List (Option Kept)) → stays ls (line_of k.entry) ≡ true → kept ls (Some k ∷ os) ≡ entry_ahead k.entry (kept ls os)
kept_on ls k os h = ap (λ (t : Bool). entries_joined (if t then k.entry ∷ staying ls (entries_in os) else staying ls (entries_in os))) h

kept_off : (ls : List Instance) (k : Kept) (os : List (Option Kept)) → stays ls (line_of k.entry) ≡ false → kept ls (Some k ∷ os) ≡ kept ls os
kept_off ls k os h = ap (λ (t : Bool). entries_joined (if t then k.entry ∷ staying ls (entries_in os) else staying ls (entries_in os))) h

module _ (ls : List Instance) where
  its_stay : (k : Kept) → stays_note ls (note_of k.line) ≡ stays ls (line_of k.entry)
  its_stay k = note_stays ls k.line ∙ k.stays_alike ls

  its_time : (k : Kept) → is_time (note_of k.line) ≡ is_sweep (line_of k.entry)
  its_time k = note_time k.line ∙ k.time_alike

  next_time : (ns : List Note) (os : List (Option Kept)) → AreNotesOf ns os → time_next ls ns ≡ starts (kept ls os)
  next_time [] [] are = refl
  next_time [] (o ∷ os) are = absurd are
  next_time (n ∷ ns) [] are = absurd are
  next_time (n ∷ ns) (None ∷ os) are = ap (λ (t : Bool). if t then is_time n else time_next ls ns) (untold_goes ls n are.0) ∙ next_time ns os are.1
  next_time (n ∷ ns) (Some k ∷ os) are = ap (λ (m : Note). time_next ls (m ∷ ns)) are.0 ∙ by_stay (next_time ns os are.1) (stays ls (line_of k.entry)) refl
    where
      by_stay : time_next ls ns ≡ starts (kept ls os) → (t : Bool) → stays ls (line_of k.entry) ≡ t → time_next ls (note_of k.line ∷ ns) ≡ starts (kept ls (Some k ∷ os))
      by_stay later true h =
          ap (λ (t : Bool). if t then is_time (note_of k.line) else time_next ls ns) (its_stay k ∙ h)
          ∙ (its_time k ∙ sym (ap starts (kept_on ls k os h) ∙ starts_ahead k.entry (kept ls os)))
      by_stay later false h =
          ap (λ (t : Bool). if t then is_time (note_of k.line) else time_next ls ns) (its_stay k ∙ h)
          ∙ (later ∙ sym (ap starts (kept_off ls k os h)))

  ahead_bodies : (e : Entry) (es : List Entry) → (if is_sweep (line_of e) && starts es then map body_in es else body_in e ∷ map body_in es) ≡ map body_in (entry_ahead e es)
  ahead_bodies e [] = by_sweep (is_sweep (line_of e))
    where
      by_sweep : (t : Bool) → (if t && false then map body_in [] else body_in e ∷ []) ≡ body_in e ∷ []
      by_sweep true = refl
      by_sweep false = refl
  ahead_bodies e (f ∷ es) = by_test (is_sweep (line_of e) && is_sweep (line_of f))
    where
      by_test : (t : Bool) → (if t then map body_in (f ∷ es) else body_in e ∷ map body_in (f ∷ es)) ≡ map body_in (if t then f ∷ es else e ∷ f ∷ es)
      by_test true = refl
      by_test false = refl

  turned : (t : Bool) (x y : List (List ℕ)) → (if not t then x else y) ≡ (if t then y else x)
  turned true x y = refl
  turned false x y = refl

  picks : (ns : List Note) (os : List (Option Kept)) (bs : List (List ℕ)) → AreNotesOf ns os → AreBodiesOf bs os → picked (plan_in ls ns) bs ≡ map body_in (kept ls os)
  picks [] [] [] are has = refl
  picks [] [] (b ∷ bs) are has = absurd has
  picks [] (o ∷ os) bs are has = absurd are
  picks (n ∷ ns) [] bs are has = absurd are
  picks (n ∷ ns) (o ∷ os) [] are has = absurd has
  picks (n ∷ ns) (None ∷ os) (b ∷ bs) are has =
      ap (λ (t : Bool). if t && not (is_time n && time_next ls ns) then b ∷ picked (plan_in ls ns) bs else picked (plan_in ls ns) bs) (untold_goes ls n are.0)
      ∙ picks ns os bs are.1 has.1
  picks (n ∷ ns) (Some k ∷ os) (b ∷ bs) are has =
      let rest = picked (plan_in ls ns) bs in
      ap (λ (m : Note). if stays_note ls m && not (is_time m && time_next ls ns) then b ∷ rest else rest) are.0 ∙ by_stay rest (picks ns os bs are.1 has.1) (next_time ns os are.1) (stays ls (line_of k.entry)) refl
    where
      by_stay : (rest : List (List ℕ)) → rest ≡ map body_in (kept ls os) → time_next ls ns ≡ starts (kept ls os) → (t : Bool) → stays ls (line_of k.entry) ≡ t
          → (if stays_note ls (note_of k.line) && not (is_time (note_of k.line) && time_next ls ns) then b ∷ rest else rest) ≡ map body_in (kept ls (Some k ∷ os))
      by_stay rest h later true s =
          ap (λ (t : Bool). if t && not (is_time (note_of k.line) && time_next ls ns) then b ∷ rest else rest) (its_stay k ∙ s)
          ∙ (turned (is_time (note_of k.line) && time_next ls ns) (b ∷ rest) rest
          ∙ (ap (λ (t : Bool). if t && time_next ls ns then rest else b ∷ rest) (its_time k)
          ∙ (ap (λ (t : Bool). if is_sweep (line_of k.entry) && t then rest else b ∷ rest) later
          ∙ (ap (λ (xs : List (List ℕ)). if is_sweep (line_of k.entry) && starts (kept ls os) then xs else b ∷ xs) h
          ∙ (ap (λ (x : List ℕ). if is_sweep (line_of k.entry) && starts (kept ls os) then map body_in (kept ls os) else x ∷ map body_in (kept ls os)) (sym has.0)
          ∙ (ahead_bodies k.entry (kept ls os) ∙ sym (ap (map body_in) (kept_on ls k os s))))))))
      by_stay rest h later false s =
          ap (λ (t : Bool). if t && not (is_time (note_of k.line) && time_next ls ns) then b ∷ rest else rest) (its_stay k ∙ s)
          ∙ (h ∙ sym (ap (map body_in) (kept_off ls k os s)))

-- ---- the records of the bodies

-- a change is of one kind, however long its record is
change_stays : (ls : List Instance) (c : Change) (n k : ℕ) → stays ls (changed c n) ≡ stays ls (changed c k)
change_stays ls c n k = refl

change_time : (c : Change) (n k : ℕ) → is_sweep (changed c n) ≡ is_sweep (changed c k)
change_time (opens o) n k = refl
change_time (extends x) n k = refl
change_time (ends e) n k = refl
change_time (finishes f) n k = refl
change_time (sweeps tick) n k = refl

module _ (f : ℕ) where
  -- one body more: its record has a note, and is taken or passed over
  record One (ls : List Instance) (body : List ℕ) (m : Made) (es : List Entry) (n : Made) : Type 0 where
    its : Option Kept
    mark : mark_by f m (read_record_in f body) ≡ is_some its ∷ []
    entry : es ≡ staying ls (entries_in (its ∷ []))
    lines : n.book.file.lines ≡ m.book.file.lines ++ lines_in (its ∷ [])
    drawn : n.book.file.drawn ≡ m.book.file.drawn
    head : n.book.file.head ≡ m.book.file.head
    -- in the newest format the body is copied, and is as long as its line
    body_is : f ≡ newest → IsBodyOf body its
    same_line : f ≡ newest → lines_in (its ∷ []) ≡ map line_of (entries_in (its ∷ []))
    -- of an older one this is written
    anew : IsOlder f → (xs : List (List ℕ)) → IsAnewBy f m body (read_record_in f body) xs → (x : List ℕ) × ((xs ≡ x ∷ []) × IsBodyOf x its)

  copied_body : (m : Made) (body : List ℕ) (c : Change) (state : Option (List ℕ)) → f ≡ newest → body_now f m body c state ≡ body
  copied_body m body c state is = ap (λ (k : ℕ). if k == 6 then body else body_of (changes c (state_now f m c state))) is

  written_body : (m : Made) (body : List ℕ) (c : Change) (state : Option (List ℕ)) → (f ≡ newest → ⊥) → body_now f m body c state ≡ body_of (changes c (state_now f m c state))
  written_body m body c state old = by_test (f == 6) refl
    where
      by_test : (t : Bool) → (f == 6) ≡ t → (if t then body else body_of (changes c (state_now f m c state))) ≡ body_of (changes c (state_now f m c state))
      by_test true is = absurd (old (grind (arith, nat_tests, is)))
      by_test false is = refl

  one : (ls : List Instance) (body : List ℕ) (m : Made) (es : List Entry) (n : Made) → AreBytes body → Step f ls texts body m es n → One ls body m es n
  one ls body m es n small (turns named scripts read is) =
      let k : Kept = record { entry = settles scripts body; line = renewed scripts (length body); stays_alike = λ ls. refl; time_alike = refl } in
      record {
        its = Some k;
        mark = ap (mark_by f m) read;
        entry = refl;
        lines = refl;
        drawn = refl;
        head = refl;
        body_is = λ now. refl;
        same_line = λ now. refl;
        anew = λ old xs h. (body, (subst (λ (r : Option Record). IsAnewBy f m body r xs) read h, refl));
      }
  one ls body m es n small (lands c state names read sure is b stay) =
      let its : Entry = tells c (state_now f m c state) (body_now f m body c state) in
      let k : Kept = record { entry = its; line = changed c (length body); stays_alike = λ ls. change_stays ls c (length body) (length (body_now f m body c state)); time_alike = change_time c (length body) (length (body_now f m body c state)) } in
      record {
        its = Some k;
        mark = ap (mark_by f m) read ∙ ap (λ (o : Option (List TxName)). is_some o ∷ []) is;
        entry = ap (λ (t : Bool). if t then its ∷ [] else []) (sym stay);
        lines = refl;
        drawn = refl;
        head = refl;
        body_is = λ now. copied_body m body c state now;
        same_line = λ now. ap (λ (x : List ℕ). changed c (length x) ∷ []) (sym (copied_body m body c state now));
        anew = λ old xs h.
            let w = subst (λ (r : Option Record). IsAnewBy f m body r xs) read h in
            (w.0, (w.1.0, written_body m body c state old.old ∙ sym (subst (λ (o : Option (List TxName)). IsOfLanding (is_some o) (body_of (changes c (state_now f m c state))) w.0) is w.1.1)));
      }
  one ls body m es n small (frees read fed) = record {
    its = None;
    mark = ap (mark_by f m) read;
    entry = refl;
    lines = sym (append-nil m.book.file.lines);
    drawn = refl;
    head = refl;
    body_is = λ now. tt;
    same_line = λ now. refl;
    anew = λ older xs h. absurd (let no : true ≡ false = tells_none f body promotes older small read in cc no);
  }
  one ls body m es n small (passes c state read sure is) = record {
    its = None;
    mark = ap (mark_by f m) read ∙ ap (λ (o : Option (List TxName)). is_some o ∷ []) is;
    entry = refl;
    lines = sym (append-nil m.book.file.lines);
    drawn = refl;
    head = refl;
    body_is = λ now. tt;
    same_line = λ now. refl;
    anew = λ old xs h. let w = subst (λ (r : Option Record). IsAnewBy f m body r xs) read h in (w.0, (w.1.0, tt));
  }

entries_more : (o : Option Kept) (os : List (Option Kept)) → entries_in (o ∷ os) ≡ entries_in (o ∷ []) ++ entries_in os
entries_more None os = refl
entries_more (Some k) os = refl

lines_more : (o : Option Kept) (os : List (Option Kept)) → lines_in (o ∷ os) ≡ lines_in (o ∷ []) ++ lines_in os
lines_more None os = refl
lines_more (Some k) os = refl

staying_more : (ls : List Instance) (o : Option Kept) (os : List (Option Kept)) → staying ls (entries_in (o ∷ os)) ≡ staying ls (entries_in (o ∷ [])) ++ staying ls (entries_in os)
staying_more ls None os = refl
staying_more ls (Some k) os = by_test (stays ls (line_of k.entry))
  where
    by_test : (t : Bool) → (if t then k.entry ∷ staying ls (entries_in os) else staying ls (entries_in os)) ≡ (if t then k.entry ∷ [] else []) ++ staying ls (entries_in os)
    by_test true = refl
    by_test false = refl

lines_append : (xs ys : List Entry) → map line_of (xs ++ ys) ≡ map line_of xs ++ map line_of ys
lines_append [] ys = refl
lines_append (x ∷ xs) ys = ap (λ (ls : List Line). line_of x ∷ ls) (lines_append xs ys)

one_in_front : (x : List ℕ) (front rest anew : List (List ℕ)) → anew ≡ front ++ rest → front ≡ x ∷ [] → anew ≡ x ∷ rest
one_in_front x front rest anew is one = is ∙ ap (λ (xs : List (List ℕ)). xs ++ rest) one

module _ (f : ℕ) where
  -- these bodies, the gate of the first at this place, after what was made
  record Walk (ls : List Instance) (shelf place : ℕ) (bodies : List (List ℕ)) (m e : Made) : Type 0 where
    all : List (Option Kept)
    marks : marks_of f texts shelf place bodies (made m) ≡ map is_some all
    stay : entries f ls texts shelf place bodies (made m) ≡ staying ls (entries_in all)
    lines : e.book.file.lines ≡ m.book.file.lines ++ lines_in all
    drawn : e.book.file.drawn ≡ m.book.file.drawn
    head : e.book.file.head ≡ m.book.file.head
    bodies_are : f ≡ newest → AreBodiesOf bodies all
    same_lines : f ≡ newest → lines_in all ≡ map line_of (entries_in all)
    anew_are : IsOlder f → (anew : List (List ℕ)) → AreAnew f texts shelf place bodies (made m) anew → AreBodiesOf anew all

  none_anew : (anew : List (List ℕ)) → anew ≡ [] → AreBodiesOf anew []
  none_anew anew is = subst (λ (xs : List (List ℕ)). AreBodiesOf xs []) (sym is) tt

  walk : (ls : List Instance) (shelf place : ℕ) (bodies : List (List ℕ)) (m e : Made) → AreAllBytes bodies → made_in (with_bodies_at f texts shelf place bodies (made m)) ≡ Some e → Walk ls shelf place bodies m e
  walk ls shelf place [] m e small is =
      subst (λ (x : Made). Walk ls shelf place [] m x) (let alike : m ≡ e = cc is in alike)
      (record { all = []; marks = refl; stay = refl; lines = sym (append-nil m.book.file.lines); drawn = refl; head = refl; bodies_are = λ now. tt; same_lines = λ now. refl; anew_are = λ old anew none. none_anew anew none })
  walk ls shelf place (body ∷ bodies) m e small is =
      let later = place + 5 + length body in
      let r = read_record_in f body in
      let go = moved f ls texts shelf place later body bodies m e r refl is in
      let n = go.then_ in
      let w = walk ls shelf later bodies n e small.1 (subst (λ (x : Making). made_in (with_bodies_at f texts shelf later bodies x) ≡ Some e) go.is is) in
      let o = one f ls body m go.its n small.0 go.step in
      let its = o.its in
      record {
        all = its ∷ w.all;
        marks = ap (λ (x : Making). mark_by f m r ++ marks_of f texts shelf later bodies x) go.is
            ∙ (ap (λ (ts : List Bool). ts ++ marks_of f texts shelf later bodies (made n)) o.mark ∙ ap (λ (ts : List Bool). is_some its ∷ ts) w.marks);
        stay = ap (λ (x : Making). entry_by f ls texts m body r ++ entries f ls texts shelf later bodies x) go.is
            ∙ (ap (λ (es : List Entry). es ++ entries f ls texts shelf later bodies (made n)) (go.entry ∙ o.entry)
            ∙ (ap (λ (es : List Entry). staying ls (entries_in (its ∷ [])) ++ es) w.stay ∙ sym (staying_more ls its w.all)));
        lines = w.lines
            ∙ (ap (λ (xs : List Line). xs ++ lines_in w.all) o.lines
            ∙ (append_assoc m.book.file.lines (lines_in (its ∷ [])) (lines_in w.all) ∙ ap (λ (xs : List Line). m.book.file.lines ++ xs) (sym (lines_more its w.all))));
        drawn = w.drawn ∙ o.drawn;
        head = w.head ∙ o.head;
        bodies_are = λ now. (o.body_is now, w.bodies_are now);
        same_lines = λ now.
            lines_more its w.all
            ∙ (ap (λ (xs : List Line). xs ++ lines_in w.all) (o.same_line now)
            ∙ (ap (λ (xs : List Line). map line_of (entries_in (its ∷ [])) ++ xs) (w.same_lines now) ∙ sym (ap (map line_of) (entries_more its w.all) ∙ lines_append (entries_in (its ∷ [])) (entries_in w.all))));
        anew_are = λ old anew h.
            let front = h.0 in
            let rest = h.1 in
            let x = o.anew old front h.2.1.0 in
            let behind = subst (λ (y : Making). AreAnew f texts shelf later bodies y rest) go.is h.2.1.1 in
            subst (λ (xs : List (List ℕ)). AreBodiesOf xs (its ∷ w.all)) (sym (one_in_front x.0 front rest anew h.2.0 x.1.0)) (x.1.1, w.anew_are old rest behind);
      }

  -- ---- after the record that a journal begins with, and after one that tells a number

  -- what stands after them
  record Second (ls : List Instance) (shelf place : ℕ) (bodies : List (List ℕ)) (first e : Made) : Type 0 where
    from : Made
    later : ℕ
    rest : List (List ℕ)
    is : made_in (with_bodies_at f texts shelf later rest (made from)) ≡ Some e
    stay : entries f ls texts shelf place bodies (begun first) ≡ entries f ls texts shelf later rest (made from)
    marks : marks_of f texts shelf place bodies (begun first) ≡ marks_of f texts shelf later rest (made from)
    lines : from.book.file.lines ≡ first.book.file.lines
    head : from.book.file.head ≡ first.book.file.head
    others : rest ≡ others_of (is_some from.book.file.drawn) bodies
    bytes : AreAllBytes rest
    anew : (xs : List (List ℕ)) → AreAnew f texts shelf place bodies (begun first) xs → AreAnew f texts shelf later rest (made from) xs

  module _ (ls : List Instance) (fed : Bool) (shelf gate n : ℕ) (scripts : List Named) (e : Made) where
    abbrev start : Made
    start = began fed shelf gate n scripts

    second : (place : ℕ) (bodies : List (List ℕ)) → AreAllBytes bodies → made_in (with_bodies_at f texts shelf place bodies (begun start)) ≡ Some e → Second ls shelf place bodies start e
    second place [] small is = record { from = start; later = place; rest = []; is = is; stay = refl; marks = refl; lines = refl; head = refl; others = refl; bytes = tt; anew = λ xs h. h }
    second place (body ∷ bodies) small is = by_record (read_record_in f body) refl
      where
        later_place : ℕ
        later_place = place + 5 + length body

        plainly : (r : Option Record) → read_record_in f body ≡ r → second_at f texts place (length body) start r ≡ next_at f texts place (length body) start r → Second ls shelf place (body ∷ bodies) start e
        plainly r read alike =
            let here : second_at f texts place (length body) start (read_record_in f body) ≡ next_at f texts place (length body) start (read_record_in f body) =
            ap (second_at f texts place (length body) start) read ∙ (alike ∙ sym (ap (next_at f texts place (length body) start) read)) in
            record {
              from = start;
              later = place;
              rest = body ∷ bodies;
              is = ap (λ (x : Making). made_in (with_bodies_at f texts shelf later_place bodies x)) (sym here) ∙ is;
              stay = ap (λ (x : Making). entry_by f ls texts start body (read_record_in f body) ++ entries f ls texts shelf later_place bodies x) here;
              marks = ap (λ (x : Making). mark_by f start (read_record_in f body) ++ marks_of f texts shelf later_place bodies x) here;
              lines = refl;
              head = refl;
              others = refl;
              bytes = small;
              anew = λ xs h. (h.0, h.1, (h.2.0, (h.2.1.0, subst (λ (x : Making). AreAnew f texts shelf later_place bodies x h.1) here h.2.1.1)));
            }

        by_record : (r : Option Record) → read_record_in f body ≡ r → Second ls shelf place (body ∷ bodies) start e
        by_record (Some (draws number)) read = record {
          from = with_drawn number start;
          later = later_place;
          rest = bodies;
          is = ap (λ (r : Option Record). made_in (with_bodies_at f texts shelf later_place bodies (second_at f texts place (length body) start r))) (sym read) ∙ is;
          stay = ap (λ (r : Option Record). entry_by f ls texts start body r ++ entries f ls texts shelf later_place bodies (second_at f texts place (length body) start r)) read;
          marks = ap (λ (r : Option Record). mark_by f start r ++ marks_of f texts shelf later_place bodies (second_at f texts place (length body) start r)) read;
          lines = refl;
          head = refl;
          others = refl;
          bytes = small.1;
          anew = λ xs h.
              let none : h.0 ≡ [] = subst (λ (r : Option Record). IsAnewBy f start body r h.0) read h.2.1.0 in
              let all : xs ≡ h.1 = h.2.0 ∙ ap (λ (ys : List (List ℕ)). ys ++ h.1) none in
              subst (λ (ys : List (List ℕ)). AreAnew f texts shelf later_place bodies (made (with_drawn number start)) ys) (sym all)
              (subst (λ (r : Option Record). AreAnew f texts shelf later_place bodies (second_at f texts place (length body) start r) h.1) read h.2.1.1);
        }
        by_record None read = plainly None read refl
        by_record (Some (begins s named)) read = plainly (Some (begins s named)) read refl
        by_record (Some (changes c state)) read = plainly (Some (changes c state)) read refl
        by_record (Some (renews named)) read = plainly (Some (renews named)) read refl
        by_record (Some follows) read = plainly (Some follows) read refl
        by_record (Some promotes) read = plainly (Some promotes) read refl

  -- ---- the record that a journal begins with, and those in front of it

  -- what bodies tell after what was made of those before them, of which together a book is made of a shelf that does not follow: the record
  -- that its journal begins with, and what stands after that
  record Start (shelf gate : ℕ) (bodies : List (List ℕ)) (x : Making) : Type 0 where
    fed : Bool
    place : ℕ
    first : List ℕ
    rest : List (List ℕ)
    bytes : AreAllBytes rest
    one : First texts shelf (length first) (read_record_in f first)
    plain : is_role first ≡ false
    front : behind_front bodies ≡ first ∷ rest
    stay : (ls : List Instance) → entries f ls texts shelf gate bodies x ≡ entries f ls texts shelf (place + 5 + length first) rest (begun (began fed shelf place (length first) one.scripts))
    marks : marks_of f texts shelf gate bodies x ≡ marks_of f texts shelf (place + 5 + length first) rest (begun (began fed shelf place (length first) one.scripts))
    makes : with_bodies_at f texts shelf gate bodies x ≡ with_bodies_at f texts shelf (place + 5 + length first) rest (begun (began fed shelf place (length first) one.scripts))
    anew : IsOlder f → (xs : List (List ℕ)) → AreAnew f texts shelf gate bodies x xs
        → (more : List (List ℕ)) × ((xs ≡ first ∷ more) × AreAnew f texts shelf (place + 5 + length first) rest (begun (began fed shelf place (length first) one.scripts)) more)

  module _ (shelf : ℕ) (m : Made) (unfed : m.book.follows ≡ false) where
    -- it stands here
    start_here : (fed : Bool) (gate : ℕ) (body : List ℕ) (bodies : List (List ℕ)) (x : Making) → AreAllBytes (body ∷ bodies) → ((ls : List Instance) → entry_in f ls texts x body ≡ []) → mark_in f x body ≡ []
        → (IsOlder f → (xs : List (List ℕ)) → IsAnewIn f x body xs → xs ≡ body ∷ []) → with_body_at f texts shelf gate body x ≡ first_by texts fed shelf gate (length body) (read_record_in f body)
        → made_in (with_bodies_at f texts shelf gate (body ∷ bodies) x) ≡ Some m → Start shelf gate (body ∷ bodies) x
    start_here fed gate body bodies x small none no_mark alone is makes =
        let later = gate + 5 + length body in
        let one = first_is f texts fed shelf gate (length body) later bodies m (read_record_in f body) (ap (λ (y : Making). made_in (with_bodies_at f texts shelf later bodies y)) (sym is) ∙ makes) in
        let so : with_body_at f texts shelf gate body x ≡ begun (began fed shelf gate (length body) one.scripts) = is ∙ one.is fed gate in
        let plain : is_role body ≡ false = role_is f body (begins one.on one.named) small.0 one.read in
        record {
          fed = fed;
          place = gate;
          first = body;
          rest = bodies;
          bytes = small.1;
          one = one;
          plain = plain;
          front = ap (λ (t : Bool). if t then behind_front bodies else body ∷ bodies) plain;
          stay = λ ls. ap (λ (es : List Entry). es ++ entries f ls texts shelf later bodies (with_body_at f texts shelf gate body x)) (none ls) ∙ ap (λ (y : Making). entries f ls texts shelf later bodies y) so;
          marks = ap (λ (ts : List Bool). ts ++ marks_of f texts shelf later bodies (with_body_at f texts shelf gate body x)) no_mark ∙ ap (λ (y : Making). marks_of f texts shelf later bodies y) so;
          makes = ap (λ (y : Making). with_bodies_at f texts shelf later bodies y) so;
          anew = λ older xs h. (
            h.1,
            (one_in_front body h.0 h.1 xs h.2.0 (alone older h.0 h.2.1.0), subst (λ (y : Making). AreAnew f texts shelf later bodies y h.1) so h.2.1.1),
          );
        }

    -- it stands after this one, which tells whether the shelf follows
    start_later : (gate : ℕ) (body : List ℕ) (bodies : List (List ℕ)) (x y : Making) → ((ls : List Instance) → entry_in f ls texts x body ≡ []) → mark_in f x body ≡ [] → (IsOlder f → ⊥) → is_role body ≡ true
        → with_body_at f texts shelf gate body x ≡ y → Start shelf (gate + 5 + length body) bodies y → Start shelf gate (body ∷ bodies) x
    start_later gate body bodies x y none no_mark never role is s =
        let later = gate + 5 + length body in
        record {
          fed = s.fed;
          place = s.place;
          first = s.first;
          rest = s.rest;
          bytes = s.bytes;
          one = s.one;
          plain = s.plain;
          front = ap (λ (t : Bool). if t then behind_front bodies else body ∷ bodies) role ∙ s.front;
          stay = λ ls. ap (λ (es : List Entry). es ++ entries f ls texts shelf later bodies (with_body_at f texts shelf gate body x)) (none ls)
              ∙ (ap (λ (z : Making). entries f ls texts shelf later bodies z) is ∙ s.stay ls);
          marks = ap (λ (ts : List Bool). ts ++ marks_of f texts shelf later bodies (with_body_at f texts shelf gate body x)) no_mark
              ∙ (ap (λ (z : Making). marks_of f texts shelf later bodies z) is ∙ s.marks);
          makes = ap (λ (z : Making). with_bodies_at f texts shelf later bodies z) is ∙ s.makes;
          anew = λ older xs h. absurd (never older);
        }

    start_waited : (IsOlder f → ⊥) → (gate : ℕ) (bodies : List (List ℕ)) → AreAllBytes bodies → made_in (with_bodies_at f texts shelf gate bodies waited) ≡ Some m → Start shelf gate bodies waited
    start_waited never gate [] small makes = absurd (none-some m makes)
    start_waited never gate (body ∷ bodies) small makes = start_here false gate body bodies waited small (λ ls. refl) refl (λ older xs h. absurd (never older)) refl makes

    start_waits : (IsOlder f → ⊥) → (s gate : ℕ) (bodies : List (List ℕ)) → AreAllBytes bodies → made_in (with_bodies_at f texts shelf gate bodies (waits s)) ≡ Some m → Start shelf gate bodies (waits s)
    start_waits never s gate [] small makes =
        let at : waiting s ≡ m = cc makes in
        let no : true ≡ false = ap (λ (y : Made). y.book.follows) at ∙ unfed in
        absurd (cc no)
    start_waits never s gate (body ∷ bodies) small makes = by_record (read_record_in f body) refl
      where
        plainly : (r : Option Record) → read_record_in f body ≡ r → fed_by texts shelf gate (length body) r ≡ first_by texts true shelf gate (length body) r → Start shelf gate (body ∷ bodies) (waits s)
        plainly r read alike =
            start_here true gate body bodies (waits s) small (λ ls. refl) refl (λ older xs h. absurd (never older))
            (ap (fed_by texts shelf gate (length body)) read ∙ (alike ∙ sym (ap (first_by texts true shelf gate (length body)) read))) makes

        by_record : (r : Option Record) → read_record_in f body ≡ r → Start shelf gate (body ∷ bodies) (waits s)
        by_record (Some promotes) read =
            let is : with_body_at f texts shelf gate body (waits s) ≡ waited = ap (fed_by texts shelf gate (length body)) read in
            start_later gate body bodies (waits s) waited (λ ls. refl) refl never (role_is f body promotes small.0 read) is
            (start_waited never (gate + 5 + length body) bodies small.1 (ap (λ (y : Making). made_in (with_bodies_at f texts shelf (gate + 5 + length body) bodies y)) (sym is) ∙ makes))
        by_record None read = plainly None read refl
        by_record (Some (begins t named)) read = plainly (Some (begins t named)) read refl
        by_record (Some (changes c state)) read = plainly (Some (changes c state)) read refl
        by_record (Some (renews named)) read = plainly (Some (renews named)) read refl
        by_record (Some (draws number)) read = plainly (Some (draws number)) read refl
        by_record (Some follows) read = plainly (Some follows) read refl

    start_of : (gate : ℕ) (bodies : List (List ℕ)) → AreAllBytes bodies → made_in (with_bodies_at f texts shelf gate bodies nothing) ≡ Some m → Start shelf gate bodies nothing
    start_of gate [] small makes = absurd (none-some m makes)
    start_of gate (body ∷ bodies) small makes = by_record (read_record_in f body) refl
      where
        plainly : (r : Option Record) → read_record_in f body ≡ r → start_by texts shelf gate (length body) r ≡ first_by texts false shelf gate (length body) r → Start shelf gate (body ∷ bodies) nothing
        plainly r read alike =
            start_here false gate body bodies nothing small (λ ls. refl) refl (λ older xs h. h)
            (ap (start_by texts shelf gate (length body)) read ∙ (alike ∙ sym (ap (first_by texts false shelf gate (length body)) read))) makes

        by_record : (r : Option Record) → read_record_in f body ≡ r → Start shelf gate (body ∷ bodies) nothing
        by_record (Some follows) read =
            let is : with_body_at f texts shelf gate body nothing ≡ waits shelf = ap (start_by texts shelf gate (length body)) read in
            let never : IsOlder f → ⊥ = λ older. (let no : true ≡ false = tells_none f body follows older small.0 read in cc no) in
            start_later gate body bodies nothing (waits shelf) (λ ls. refl) refl never (role_is f body follows small.0 read) is
            (start_waits never shelf (gate + 5 + length body) bodies small.1 (ap (λ (y : Making). made_in (with_bodies_at f texts shelf (gate + 5 + length body) bodies y)) (sym is) ∙ makes))
        by_record None read = plainly None read refl
        by_record (Some (begins t named)) read = plainly (Some (begins t named)) read refl
        by_record (Some (changes c state)) read = plainly (Some (changes c state)) read refl
        by_record (Some (renews named)) read = plainly (Some (renews named)) read refl
        by_record (Some (draws number)) read = plainly (Some (draws number)) read refl
        by_record (Some promotes) read = plainly (Some promotes) read refl

  -- these bodies, walked through: the first that is no role's, and those after it
  record Read (ls : List Instance) (shelf : ℕ) (bodies : List (List ℕ)) (m : Made) : Type 0 where
    first : List ℕ
    behind : List (List ℕ)
    plain : is_role first ≡ false
    front : behind_front bodies ≡ first ∷ behind
    all : List (Option Kept)
    rest : List (List ℕ)
    others : rest ≡ others_of (is_some m.book.file.drawn) behind
    marks : marks_of f texts shelf 8 bodies nothing ≡ map is_some all
    stay : entries f ls texts shelf 8 bodies nothing ≡ staying ls (entries_in all)
    lines : m.book.file.lines ≡ lines_in all
    head : m.book.file.head ≡ 14 + length first
    bodies_are : f ≡ newest → AreBodiesOf rest all
    same_lines : f ≡ newest → lines_in all ≡ map line_of (entries_in all)
    anew_are : IsOlder f → (anew : List (List ℕ)) → AreAnew f texts shelf 8 bodies nothing anew → (more : List (List ℕ)) × ((anew ≡ first ∷ more) × AreBodiesOf more all)

  read : (ls : List Instance) (shelf : ℕ) (bodies : List (List ℕ)) (m : Made) → m.book.follows ≡ false → AreAllBytes bodies → made_in (book_of_format f texts shelf bodies) ≡ Some m → Read ls shelf bodies m
  read ls shelf bodies m unfed small makes =
      let s = start_of shelf m unfed 8 bodies small makes in
      let later = s.place + 5 + length s.first in
      let here = ap made_in (sym s.makes) ∙ makes in
      let two = second ls s.fed shelf s.place (length s.first) s.one.scripts m later s.rest s.bytes here in
      let w = walk ls shelf two.later two.rest two.from m two.bytes two.is in
      record {
        first = s.first;
        behind = s.rest;
        plain = s.plain;
        front = s.front;
        all = w.all;
        rest = two.rest;
        others = two.others ∙ ap (λ (o : Option ℕ). others_of (is_some o) s.rest) (sym w.drawn);
        marks = s.marks ∙ (two.marks ∙ w.marks);
        stay = s.stay ls ∙ (two.stay ∙ w.stay);
        lines = w.lines ∙ ap (λ (xs : List Line). xs ++ lines_in w.all) two.lines;
        head = w.head ∙ two.head;
        bodies_are = w.bodies_are;
        same_lines = w.same_lines;
        anew_are = λ older anew h.
            let a = s.anew older anew h in
            (a.0, (a.1.0, w.anew_are older a.0 (two.anew a.0 a.1.1)));
      }

-- what is known of a file of this format whose bodies make this
pub record KnowsMade (f shelf : ℕ) (bodies : List (List ℕ)) (m : Made) (notes : FileNotes) (plan : List Bool) : Type 0 where
  pub noted : IsNoted notes
  pub file : file_in notes ≡ m.book.file
  pub marks : marks_in notes ≡ marks_of f texts shelf 8 bodies nothing
  pub planned : plan ≡ plan_in m.book.instances notes.notes.items

module _ (f shelf : ℕ) (bodies : List (List ℕ)) (m : Made) (unfed : m.book.follows ≡ false) (small : AreAllBytes bodies) (makes : made_in (book_of_format f texts shelf bodies) ≡ Some m) where
  abbrev ls : List Instance
  ls = m.book.instances

  abbrev r : Read f ls shelf bodies m
  r = read f ls shelf bodies m unfed small makes

  copies_is : copies f texts shelf bodies m ≡ r.first ∷ (body_of (draws m.book.logged) ∷ map body_in (kept ls r.all))
  copies_is =
      ap (λ (bs : List (List ℕ)). first_body_of bs ∷ (body_of (draws m.book.logged) ∷ map body_in (entries_joined (entries f ls texts shelf 8 bodies nothing)))) r.front
      ∙ ap (λ (es : List Entry). r.first ∷ (body_of (draws m.book.logged) ∷ map body_in (entries_joined es))) r.stay

  module _ (notes : FileNotes) (plan : List Bool) (k : KnowsMade f shelf bodies m notes plan) where
    abbrev ns : List Note
    ns = notes.notes.items

    drawn_is : is_some m.book.file.drawn ≡ notes.drawn
    drawn_is = ap (λ (g : File). is_some g.drawn) (sym k.file) ∙ sym k.noted.drawn

    others_are : r.rest ≡ others_of notes.drawn r.behind
    others_are = r.others ∙ ap (λ (t : Bool). others_of t r.behind) drawn_is

    are : AreNotesOf ns r.all
    are = notes_are ns r.all (k.marks ∙ r.marks) (k.noted.lines ∙ ap (map note_of) (ap (λ (g : File). g.lines) k.file ∙ r.lines))

    -- of the newest format what is copied
    pub copied_so : f ≡ newest → copied plan notes.drawn (body_of (draws m.book.logged)) (behind_front bodies) ≡ copies f texts shelf bodies m
    copied_so now =
        let chosen : picked plan (others_of notes.drawn r.behind) ≡ map body_in (kept ls r.all) =
        ap (λ (p : List Bool). picked p (others_of notes.drawn r.behind)) k.planned ∙ (ap (picked (plan_in ls ns)) (sym others_are) ∙ picks ls ns r.all r.rest are (r.bodies_are now)) in
        ap (copied plan notes.drawn (body_of (draws m.book.logged))) r.front ∙ (ap (λ (xs : List (List ℕ)). r.first ∷ (body_of (draws m.book.logged) ∷ xs)) chosen ∙ sym copies_is)

    -- of an older one what is written
    pub written_so : IsOlder f → (anew : List (List ℕ)) → AreAnew f texts shelf 8 bodies nothing anew → copied plan false (body_of (draws m.book.logged)) anew ≡ copies f texts shelf bodies m
    written_so older anew h =
        let has = r.anew_are older anew h in
        let chosen : picked plan has.0 ≡ map body_in (kept ls r.all) = ap (λ (p : List Bool). picked p has.0) k.planned ∙ picks ls ns r.all has.0 are has.1.1 in
        ap (copied plan false (body_of (draws m.book.logged))) has.1.0 ∙ (ap (λ (xs : List (List ℕ)). r.first ∷ (body_of (draws m.book.logged) ∷ xs)) chosen ∙ sym copies_is)

-- ---- of the newest format

lines_stay : (live : List Instance) (es : List Entry) → map line_of (staying live es) ≡ filter (stays live) (map line_of es)
lines_stay live [] = refl
lines_stay live (e ∷ es) = by_test (lines_stay live es) (stays live (line_of e))
  where
    by_test : map line_of (staying live es) ≡ filter (stays live) (map line_of es) → (t : Bool)
        → map line_of (if t then e ∷ staying live es else staying live es) ≡ (if t then line_of e ∷ filter (stays live) (map line_of es) else filter (stays live) (map line_of es))
    by_test h true = ap (λ (xs : List Line). line_of e ∷ xs) h
    by_test h false = h

module _ (shelf : ℕ) (bodies : List (List ℕ)) (m : Made) (unfed : m.book.follows ≡ false) (small : AreAllBytes bodies) (makes : made_in (book_of_format newest texts shelf bodies) ≡ Some m) where
  abbrev now_ls : List Instance
  now_ls = m.book.instances

  abbrev now_r : Read newest now_ls shelf bodies m
  now_r = read newest now_ls shelf bodies m unfed small makes

  kept_lines : map line_of (kept now_ls now_r.all) ≡ last_sweeps (filter (stays now_ls) m.book.file.lines)
  kept_lines = lines_joined (staying now_ls (entries_in now_r.all)) ∙ ap last_sweeps (lines_stay now_ls (entries_in now_r.all) ∙ ap (filter (stays now_ls)) (sym (now_r.lines ∙ now_r.same_lines refl)))

  -- the copies are as long as the compacted file
  frames_long : (es : List Entry) → length (frames (map body_in es)) ≡ lines_length (map line_of es)
  frames_long [] = refl
  frames_long (tells c state body ∷ es) =
      let h = frames_long es in
      omega (arith, length-framed body, length-append (framed body) (frames (map body_in es)), h)
  frames_long (settles scripts body ∷ es) =
      let h = frames_long es in
      omega (arith, length-framed body, length-append (framed body) (frames (map body_in es)), h)

  pub long_so : length (at_rest (copies newest texts shelf bodies m)) ≡ file_length (compaction m.book)
  long_so =
      let d = body_of (draws m.book.logged) in
      let rest = map body_in (kept now_ls now_r.all) in
      let first = now_r.first in
      let all = first ∷ (d ∷ rest) in
      let here : length (at_rest (copies newest texts shelf bodies m)) ≡ length (at_rest all) = ap (λ (xs : List (List ℕ)). length (at_rest xs)) (copies_is newest shelf bodies m unfed small makes) in
      let others : length (frames rest) ≡ lines_length (last_sweeps (filter (stays now_ls) m.book.file.lines)) = frames_long (kept now_ls now_r.all) ∙ ap lines_length kept_lines in
      let nine : length d ≡ 9 = nine_long m.book.logged in
      let one : length (frames all) ≡ 5 + length first + length (frames (d ∷ rest)) = omega (arith, length-framed first, length-append (framed first) (frames (d ∷ rest))) in
      let two : length (frames (d ∷ rest)) ≡ 5 + length d + length (frames rest) = omega (arith, length-framed d, length-append (framed d) (frames rest)) in
      let head = now_r.head in
      omega (arith, here, length-at_rest all, one, two, nine, others, head)
    where
      nine_long : (n : ℕ) → length (body_of (draws n)) ≡ 9
      nine_long n = refl

-- ---- each record that is copied is one that recovery takes

abbrev trues : ℕ → List Bool
trues zero = []
trues (suc n) = true ∷ trues n

told_trues : (ns : List Note) → AllByRecursion (λ n. is_told n ≡ true) ns → map is_told ns ≡ trues (length ns)
told_trues [] all = refl
told_trues (n ∷ ns) all = ap (λ (t : Bool). t ∷ map is_told ns) all.0 ∙ ap (λ (ts : List Bool). true ∷ ts) (told_trues ns all.1)

fewer_entries : (os : List (Option Kept)) → length (entries_in os) ≤ length os
fewer_entries [] = omega arith
fewer_entries (None ∷ os) = let h = fewer_entries os in omega (arith, h)
fewer_entries (Some k ∷ os) = let h = fewer_entries os in omega (arith, h)

some_trues : (os : List (Option Kept)) → length os ≤ length (entries_in os) → map is_some os ≡ trues (length os)
some_trues [] few = refl
some_trues (None ∷ os) few = let h = fewer_entries os in absurd (let no : ⊥ = omega (arith, h, few) in no)
some_trues (Some k ∷ os) few = ap (λ (ts : List Bool). true ∷ ts) (some_trues os (omega (arith, few)))

as_many_bodies : (bs : List (List ℕ)) (os : List (Option Kept)) → AreBodiesOf bs os → length bs ≡ length os
as_many_bodies [] [] has = refl
as_many_bodies [] (o ∷ os) has = absurd has
as_many_bodies (b ∷ bs) [] has = absurd has
as_many_bodies (b ∷ bs) (o ∷ os) has = ap suc (as_many_bodies bs os has.1)

as_many_lines : (es : List Entry) → length (map line_of es) ≡ length es
as_many_lines [] = refl
as_many_lines (e ∷ es) = ap suc (as_many_lines es)

as_many_notes : (ls : List Line) → length (map note_of ls) ≡ length ls
as_many_notes [] = refl
as_many_notes (l ∷ ls) = ap suc (as_many_notes ls)

as_many_copies : (es : List Entry) → length (map body_in es) ≡ length es
as_many_copies [] = refl
as_many_copies (e ∷ es) = ap suc (as_many_copies es)

-- the second one of these two lists, where each has one body in front
behind_is : (x y : List ℕ) (xs ys : List (List ℕ)) → x ∷ xs ≡ y ∷ ys → ys ≡ xs
behind_is x y xs ys e = cc e

-- what is known of the compacted file, whose bodies make this with the lines that stay
pub marks_so : (shelf : ℕ) (bodies : List (List ℕ)) (m k : Made) (unfed : m.book.follows ≡ false) (small : AreAllBytes bodies) (makes : made_in (book_of_format newest texts shelf bodies) ≡ Some m) (notes after : FileNotes) (plan : List Bool)
    → KnowsMade newest shelf bodies m notes plan → k.book.follows ≡ false → AreAllBytes (copies newest texts shelf bodies m) → made_in (book_of_format newest texts shelf (copies newest texts shelf bodies m)) ≡ Some k
    → k.book.file ≡ compaction m.book → IsPicked plan notes after → marks_in after ≡ marks_of newest texts shelf 8 (copies newest texts shelf bodies m) nothing
marks_so shelf bodies m k unfed small makes notes after plan known unfed_then small_then again file chosen =
    let ls = m.book.instances in
    let ns = notes.notes.items in
    let r = read newest ls shelf bodies m unfed small makes in
    let rest = map body_in (kept ls r.all) in
    let number = body_of (draws m.book.logged) in
    let is = copies_is newest shelf bodies m unfed small makes in
    let q = read newest ls shelf (r.first ∷ (number ∷ rest)) k unfed_then (subst AreAllBytes is small_then) (ap (λ (bs : List (List ℕ)). made_in (book_of_format newest texts shelf bs)) (sym is) ∙ again) in
    let behind : q.behind ≡ number ∷ rest =
    behind_is r.first q.first (number ∷ rest) q.behind (sym (ap (λ (t : Bool). if t then behind_front (number ∷ rest) else r.first ∷ (number ∷ rest)) r.plain) ∙ q.front) in
    let drawn : is_some k.book.file.drawn ≡ true = ap (λ (g : File). is_some g.drawn) file in
    let these : q.rest ≡ rest = q.others ∙ (ap (λ (t : Bool). others_of t q.behind) drawn ∙ ap (others_of true) behind) in
    let lines : k.book.file.lines ≡ map line_of (kept ls r.all) = ap (λ (g : File). g.lines) file ∙ sym (kept_lines shelf bodies m unfed small makes) in
    let same : map line_of (entries_in q.all) ≡ map line_of (kept ls r.all) = sym (q.lines ∙ q.same_lines refl) ∙ lines in
    let many : length (entries_in q.all) ≡ length (kept ls r.all) = sym (as_many_lines (entries_in q.all)) ∙ (ap (λ (xs : List Line). length xs) same ∙ as_many_lines (kept ls r.all)) in
    let bodies_many : length q.all ≡ length (kept ls r.all) =
    sym (as_many_bodies q.rest q.all (q.bodies_are refl)) ∙ (ap (λ (xs : List (List ℕ)). length xs) these ∙ as_many_copies (kept ls r.all)) in
    let all_taken : map is_some q.all ≡ trues (length q.all) = some_trues q.all (omega (arith, many, bodies_many)) in
    let lines_of_all : filter is_told ns ≡ map note_of m.book.file.lines = known.noted.lines ∙ ap (λ (g : File). map note_of g.lines) known.file in
    let notes_after : after.notes.items ≡ map note_of (last_sweeps (filter (stays ls) m.book.file.lines)) =
    chosen.notes ∙ (ap (λ (p : List Bool). picked p ns) known.planned ∙ plan_picks ls ns m.book.file.lines lines_of_all) in
    let notes_many : length after.notes.items ≡ length (kept ls r.all) =
    ap (λ (xs : List Note). length xs) notes_after
    ∙ (as_many_notes (last_sweeps (filter (stays ls) m.book.file.lines)) ∙ (ap (λ (xs : List Line). length xs) (sym (kept_lines shelf bodies m unfed small makes)) ∙ as_many_lines (kept ls r.all))) in
    told_trues after.notes.items chosen.told
    ∙ (ap trues (notes_many ∙ sym bodies_many) ∙ (sym all_taken ∙ (sym q.marks ∙ ap (λ (bs : List (List ℕ)). marks_of newest texts shelf 8 bs nothing) (sym is))))
