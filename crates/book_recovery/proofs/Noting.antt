-- What is noted of a record that was read.
use Rattle.std.proofs.Common.{◌≡◌, ◌∙◌, ap, sym, subst, ℕ, ◌+◌, ◌==◌, map, Bool, true, false, List, [], ◌∷◌, ◌++◌, length, Option, Some, None, is_some, is_err, Result, Ok, Err, if◌then◌else◌, refl, arith, length-append, inl, inr}
use Rattle.std.specs.Prelude.{IfOk, OnOk}
use Rattle.std.specs.Global.{Vec}
use Rattle.std.proofs.lemmas.List.{append-nil}
use Rattle.std.proofs.lemmas.Option.{same_Some}
use Rattle.std.specs.declared.alloc.AllocError.{AllocError}
use Rattle.script_value.specs.declared.outcome.TxName.{TxName}
use Rattle.script_nodes.specs.Setup.{Named, Library}
use Rattle.script_nodes.specs.Views.{library_of}
use Rattle.replay_spec.specs.Book.{Change, changed, renewed as renewed_line, File, Book}
use Rattle.replay_spec.specs.Change.{with_line}
use Rattle.replay_spec.specs.Recovery.{number_in, is_repeated, taken_in, resettled}
use Rattle.book_redo.specs.MachineStates.Machine.{inside_of}
use Rattle.book_redo.specs.InstanceBook.declared.in_order.InOrder.{InOrder}
use Rattle.book_redo.specs.InstanceBook.declared.book.Book as kept
use Rattle.book_redo.specs.InstanceBook.Views.{no_journal}
use Rattle.book_redo.specs.InstanceBook.Standing.{book_under}
use Rattle.book_redo.specs.Redo.{told_of as told_under, number_by, file_with, IsRedone}
use Rattle.book_redo.specs.Lands.{TellsLanding}
use Rattle.page_journal.specs.Records.{newest}
use Rattle.journal_records.specs.Records.{Record, begins, changes, renews, draws, follows, promotes, body_of}
use Rattle.journal_records.specs.Old.{read_record_in}
use Rattle.journal_records.specs.Views.{logged_of}
use Rattle.journal_records.specs.declared.records.Logged.{Logged}
use Rattle.setup_reader.specs.Texts.{setup_of_texts}
use Rattle.book_redo.specs.JournalSpec.Before.{Made, plain}
use Rattle.book_redo.specs.JournalSpec.Retaking.{Told, unread, misread, told, told_in, held, landing, retaken}
use Rattle.book_redo.specs.JournalSpec.Lengths.{own_told}
use Rattle.book_redo.specs.JournalSpec.Making.{Making, begun, made, beside, told_next, next_setup, with_drawn as with_drawn_number}
use Rattle.book_redo.specs.JournalSpec.Old.{told_at, told_of, landing_told, landing_of, change_next, second_at, next_at, with_body_at}
use Rattle.book_redo.specs.JournalSpec.Copying.{state_now}
use Rattle.book_redo.specs.declared.renew.Renewed.TheVariants as renewed
use Rattle.book_redo.specs.Renewing.{IsRenewed, IsAsNewest, IsPassedOver}
use Rattle.file_notes.specs.declared.notes.FileNotes.{FileNotes}
use Rattle.file_notes.specs.Files.{file_in, marks_in, with_drawn, with_read, with_mark, StaysAsTold}
use Rattle.file_notes.specs.Notes.{is_told}
use Rattle.file_notes.specs.declared.note.Note.{Note}
use Rattle.book_recovery.specs.declared.found.Found.{Found}
use Rattle.book_recovery.specs.declared.found.Found.TheVariants as found
use Rattle.book_recovery.specs.Found.{beside_file}
use Rattle.book_recovery.specs.Reading.{seen_by, making_of, may_stand, Renews, IsMadeAgain, IsBefore, IsNothing, IsMadeAs}
use Rattle.book_recovery.specs.Noting.{mark_by, mark_in, IsFileOf, WhereMade, NotesWith}
use Rattle.book_recovery.specs.Anew.{IsBodyAnew, IsOfLanding, IsAnewBy, IsAnewIn, HasAnew, KeepsAnew, KeepsTold, AnewWith}
use Rattle.book_recovery.specs.declared.to_note.Noting.{Noting}
use Rattle.book_recovery.specs.declared.to_note.Noting.TheVariants.{Draws, Passes, Lands}
use Rattle.book_recovery.specs.Noted.{drawn_by, IsOfMade, IsNotingOf, NotesBy, TakesNote, TakesIfLands, NotesRecord, NotesMade, NotesSetup, MakesAnew}
use Rattle.book_recovery.proofs.Made.{comes_at, repeated_alike, told_beside, held_beside, good_is}

-- ---- a note of a record

mark_is : (t : Bool) (c : Change) (state : Option (List ℕ)) → with_mark t (changes c state) ≡ t
mark_is true c state = refl
mark_is false c state = refl

-- whatever its page's state is
read_same : (t : Bool) (c : Change) (s z : Option (List ℕ)) (n : ℕ) (f : File) → with_read t (changes c s) n f ≡ with_read t (changes c z) n f
read_same true c s z n f = refl
read_same false c s z n f = refl

-- the record tells a number
takes_drawn : (library : Library) (b : kept.Book) (r : Record) (again : Bool) (n number : ℕ) (old new : FileNotes) → Some number ≡ drawn_by r → file_in new ≡ with_drawn number (file_in old) → marks_in new ≡ marks_in old
    → TakesIfLands library b r again n old new
takes_drawn library b (begins shelf named) again n number old new is file marks = tt
takes_drawn library b (changes c state) again n number old new is file marks = absurd (let no : ⊥ = cc is in no)
takes_drawn library b (renews named) again n number old new is file marks = tt
takes_drawn library b follows again n number old new is file marks = tt
takes_drawn library b promotes again n number old new is file marks = tt
takes_drawn library b (draws k) again n number old new is file marks = (file ∙ ap (λ (m : ℕ). with_drawn m (file_in old)) (same_Some number k is), marks)

-- it tells none
takes_read : (library : Library) (b : kept.Book) (r : Record) (again : Bool) (n : ℕ) (t : Bool) (old mid new : FileNotes) → None ≡ drawn_by r → TellsLanding library b r again t → StaysAsTold old mid
    → file_in new ≡ with_read t r n (file_in mid) → marks_in new ≡ marks_in mid ++ with_mark t r ∷ [] → TakesIfLands library b r again n old new
takes_read library b (begins shelf named) again n t old mid new is tells same file marks = tt
takes_read library b (changes c state) again n t old mid new is tells same file marks = (
  t,
  (
    tells,
    record {
      file = file ∙ ap (with_read t (changes c state) n) same.file;
      marks =
          marks
          ∙ (ap (λ (u : Bool). marks_in mid ++ u ∷ []) (mark_is t c state) ∙ ap (λ (ns : List Note). map is_told ns ++ t ∷ []) same.notes);
    },
  ),
)
takes_read library b (renews named) again n t old mid new is tells same file marks = tt
takes_read library b follows again n t old mid new is tells same file marks = tt
takes_read library b promotes again n t old mid new is tells same file marks = tt
takes_read library b (draws k) again n t old mid new is tells same file marks = absurd (let no : ⊥ = cc is in no)

-- what is noted of a record after a book is known of the file as soon as it is told
pub takes_by : (library : Library) (b : kept.Book) (r : Record) (again : Bool) (n : ℕ) (x : Noting) (old mid new : FileNotes) → IsNotingOf library b r again n x → StaysAsTold old mid → NotesBy x mid new → TakesIfLands library b r again n old new
takes_by library b r again n (Draws number) old mid new of same by =
    takes_drawn library b r again n number old new (sym of) (by.0 ∙ ap (with_drawn number) same.file) (by.1 ∙ ap (λ (ns : List Note). map is_told ns) same.notes)
takes_by library b r again n (Passes long) old mid new of same by = takes_read library b r again n false old mid new (sym of.0) of.1.0 same by.0 by.1
takes_by library b r again n (Lands logged note long) old mid new of same by =
    let its = of.1.1.0 in
    takes_read library b r again n true old mid new (sym of.0) of.1.0 same
    (by.0 ∙ (ap (λ (q : Record). with_read true q long (file_in mid)) its ∙ ap (λ (k : ℕ). with_read true r k (file_in mid)) of.1.1.1))
    (by.1 ∙ ap (λ (q : Record). marks_in mid ++ with_mark true q ∷ []) its)

-- a note of a record is one of what it tells
noted_by : (t u : Bool) (c : Change) (now state : Option (List ℕ)) (n : ℕ) (old new : FileNotes) → t ≡ u → TakesNote t (changes c now) n old new → TakesNote u (changes c state) n old new
noted_by t u c now state n old new same note = record {
  file = note.file ∙ (ap (λ (v : Bool). with_read v (changes c now) n (file_in old)) same ∙ read_same u c now state n (file_in old));
  marks = note.marks ∙ ap (λ (v : Bool). marks_in old ++ v ∷ []) same;
}

-- ---- the body that is kept of what is told

-- of a number none is
pub told_drawn : (format : ℕ) (r : Record) (number : ℕ) (old : Vec (List ℕ)) → Some number ≡ drawn_by r → KeepsTold format r old old
told_drawn format (begins shelf named) number old is = tt
told_drawn format (changes c state) number old is = absurd (let no : ⊥ = cc is in no)
told_drawn format (renews named) number old is = tt
told_drawn format follows number old is = tt
told_drawn format promotes number old is = tt
told_drawn format (draws k) number old is = refl

pub told_kept : {E : Type 0} (format : ℕ) (r : Record) (body : List ℕ) (old new : Vec (List ℕ)) (x : Result (Unit {0}) E) → None ≡ drawn_by r → IsBodyAnew r body → OnOk x (KeepsAnew format body old new)
    → OnOk x (KeepsTold format r old new)
told_kept format r body old new (Err e) none is keeps = tt
told_kept format (begins shelf named) body old new (Ok x) none is keeps = tt
told_kept format (changes c state) body old new (Ok x) none is keeps = subst (λ (y : List ℕ). HasAnew format (y ∷ []) old new) is keeps
told_kept format (renews named) body old new (Ok x) none is keeps = tt
told_kept format follows body old new (Ok x) none is keeps = tt
told_kept format promotes body old new (Ok x) none is keeps = tt
told_kept format (draws k) body old new (Ok x) none is keeps = absurd (let no : ⊥ = cc none in no)

-- ---- whether the record of a change lands is seen in the file that it makes

longer : (n : ℕ) (c : Change) (f : File) → f ≡ with_line (changed c n) f → ⊥
longer n c f e =
    let long : length f.lines ≡ length (f.lines ++ changed c n ∷ []) = ap (λ (g : File). length g.lines) e in
    let more : length (f.lines ++ changed c n ∷ []) ≡ length f.lines + 1 = length-append f.lines (changed c n ∷ []) in
    let no : ⊥ = omega (arith, long, more) in no

same_landing : (n : ℕ) (c : Change) (f : File) (o p : Option (List TxName)) → file_with n c o f ≡ file_with n c p f → is_some o ≡ is_some p
same_landing n c f None None e = refl
same_landing n c f None (Some ns) e = absurd (longer n c f e)
same_landing n c f (Some ns) None e = absurd (longer n c f (sym e))
same_landing n c f (Some ns) (Some ms) e = refl

retaken_file : (n : ℕ) (c : Change) (o : Option (List TxName)) (x : Told) (m : Made) → (retaken n c o x m).book.file ≡ file_with n c o m.book.file
retaken_file n c None x m = refl
retaken_file n c (Some ns) x m = refl

same_made : (m k : Made) → made m ≡ made k → m ≡ k
same_made m k e = cc e

-- what is made has the file of what its record comes to
made_file : (n : ℕ) (c : Change) (o : Option (List TxName)) (x : Told) (m w : Made) → made (retaken n c o x m) ≡ made w → w.book.file ≡ file_with n c o m.book.file
made_file n c o x m w e = ap (λ (k : Made). k.book.file) (sym (same_made (retaken n c o x m) w e)) ∙ retaken_file n c o x m

told_file : (place n : ℕ) (m : Made) (c : Change) (x : Told) (w : Made) → told_next place n m c x ≡ made w → w.book.file ≡ file_with n c (landing_told m c x) m.book.file
told_file place n m c unread w e = made_file n c (landing m c []) unread m w e
told_file place n m c misread w e = absurd (let no : ⊥ = cc e in no)
told_file place n m c (told d) w e = made_file n c (landing m c (inside_of d.frames)) (told d) m w e

pub next_file : (format place n : ℕ) (m : Made) (c : Change) (state : Option (List ℕ)) (w : Made) → change_next format place n m c state ≡ made w
    → w.book.file ≡ file_with n c (landing_of format m c (told_of format m c state)) m.book.file
next_file format place n m c state w e = by_test (format == 1) e
  where
    by_test : (t : Bool) → (if t then made (retaken n c (taken_in (plain m) c) (own_told m.book c) m) else told_next place n m c (told_at format m.earlier m.book c state)) ≡ made w
        → w.book.file ≡ file_with n c (if t then taken_in (plain m) c else landing_told m c (if t then own_told m.book c else told_at format m.earlier m.book c state)) m.book.file
    by_test true e = made_file n c (taken_in (plain m) c) (own_told m.book c) m w e
    by_test false e = told_file place n m c (told_at format m.earlier m.book c state) w e

module _ (format : ℕ) (library : Library) (seen : InOrder (Unit {0})) (b : kept.Book) (c : Change) (state : Option (List ℕ)) where
  abbrev lands_in : Made → Bool
  lands_in m = is_some (landing_of format m c (told_of format m c state))

  -- one that is passed over does not land
  passed_lands : IsPassedOver format library b c state → (m : Made) → IsOfMade library seen b m → false ≡ lands_in m
  passed_lands passes m of =
      same_landing 0 c m.book.file None (landing_of format m c (told_of format m c state)) (next_file format 0 0 m c state (retaken 0 c None unread m) (passes m of.0 0 0 of.1.0 of.1.1.states))

  -- one that is told lands as recovery decides of what is told
  module _ (now : Option (List ℕ)) (as_newest : IsAsNewest format library b c state now) (again t : Bool) (so : again ≡ is_repeated (number_in c) (seen_by seen))
      (tells : (inside : List TxName) → t ≡ is_some (if again then None else held (book_under library b) c inside)) (d : kept.Book) (redone : IsRedone library c now again true b d) (m : Made) (of : IsOfMade library seen b m) where
    lands_as : (inside : List TxName) → t ≡ is_some (landing m c inside)
    lands_as inside =
        let repeated : again ≡ is_repeated (number_in c) m.earlier.seen = so ∙ sym (repeated_alike (number_in c) m.earlier.seen (seen_by seen) of.1.1.numbers) in
        let holds : held (book_under library b) c inside ≡ held m.book c inside = sym (ap (λ (y : Book). held y c inside) of.1.0 ∙ held_beside library of.0 no_journal b c inside) in
        tells inside
        ∙ (ap (λ (u : Bool). is_some (if u then None else held (book_under library b) c inside)) repeated
        ∙ ap (λ (o : Option (List TxName)). is_some (if is_repeated (number_in c) m.earlier.seen then None else o)) holds)

    good : told_in m.earlier m.book c now ≡ misread → ⊥
    good bad =
        let its : told_in m.earlier m.book c now ≡ told_under library m.earlier b c now = ap (λ (y : Book). told_in m.earlier y c now) of.1.0 ∙ told_beside library of.0 no_journal m.earlier b c now in
        good_is (told_under library m.earlier b c now) (redone m.earlier of.1.1.states).read_is (sym its ∙ bad)

    by_names : (inside : List TxName) (x : Told) → change_next format 0 0 m c state ≡ made (retaken 0 c (landing m c inside) x m) → t ≡ lands_in m
    by_names inside x e =
        lands_as inside
        ∙ same_landing 0 c m.book.file (landing m c inside) (landing_of format m c (told_of format m c state))
        (sym (retaken_file 0 c (landing m c inside) x m) ∙ next_file format 0 0 m c state (retaken 0 c (landing m c inside) x m) e)

    told_lands : t ≡ lands_in m
    told_lands = by_told (told_in m.earlier m.book c now) good (as_newest.makes m of.0 0 0 of.1.0 of.1.1.states)
      where
        by_told : (x : Told) → (x ≡ misread → ⊥) → change_next format 0 0 m c state ≡ told_next 0 0 m c x → t ≡ lands_in m
        by_told unread fine e = by_names [] unread e
        by_told misread fine e = absurd (fine refl)
        by_told (told q) fine e = by_names (inside_of q.frames) (told q) e

-- ---- the note of a record that was made again, or was passed over

module _ (format : ℕ) (library : Library) (seen : InOrder (Unit {0})) (b : kept.Book) (n : ℕ) (old new : FileNotes) where
  pub noted_told : (r : Record) (l : Logged) (again : Bool) (x : Result (Option kept.Book) AllocError) → IsRenewed format library b r (renewed.Told l) → again ≡ is_repeated (number_by (logged_of l)) (seen_by seen)
      → TakesIfLands library b (logged_of l) again n old new → IfOk x (IsMadeAgain library (logged_of l) again b) → IfOk x (NotesMade format library seen b r n old new)
  noted_told r l again (Err e) is so takes makes = tt
  noted_told r l again (Ok None) is so takes makes = tt
  noted_told (begins shelf named) l again (Ok (Some d)) is so takes makes = tt
  noted_told (renews named) l again (Ok (Some d)) is so takes makes = tt
  noted_told follows l again (Ok (Some d)) is so takes makes = tt
  noted_told promotes l again (Ok (Some d)) is so takes makes = tt
  noted_told (draws number) l again (Ok (Some d)) is so takes makes = subst (λ (q : Record). TakesIfLands library b q again n old new) is takes
  noted_told (changes c state) l again (Ok (Some d)) is so takes makes =
      let now = is.0 in
      let told_is : logged_of l ≡ changes c now = is.1.0 in
      let note : TakesIfLands library b (changes c now) again n old new = subst (λ (q : Record). TakesIfLands library b q again n old new) told_is takes in
      let redone : IsRedone library c now again true b d = subst (λ (q : Record). IsMadeAgain library q again b (Some d)) told_is makes in
      let same : again ≡ is_repeated (number_in c) (seen_by seen) = so ∙ ap (λ (q : Record). is_repeated (number_by q) (seen_by seen)) told_is in
      λ m of. noted_by note.0 (lands_in format library seen b c state m) c now state n old new (told_lands format library seen b c state now is.1.1 again note.0 same note.1.0 d redone m of) note.1.1

  pub noted_passed : (r : Record) (mid : FileNotes) (d : kept.Book) → IsRenewed format library b r renewed.Passed → StaysAsTold old mid → file_in new ≡ file_in mid → marks_in new ≡ marks_in mid ++ false ∷ []
      → NotesMade format library seen b r n old new (Some d)
  noted_passed (begins shelf named) mid d is same file marks = absurd is
  noted_passed (renews named) mid d is same file marks = absurd is
  noted_passed follows mid d is same file marks = absurd is
  noted_passed promotes mid d is same file marks = absurd is
  noted_passed (draws number) mid d is same file marks = absurd is
  noted_passed (changes c state) mid d is same file marks =
      let note : TakesNote false (changes c state) n old new = record {
        file = file ∙ same.file;
        marks = marks ∙ ap (λ (ns : List Note). map is_told ns ++ false ∷ []) same.notes;
      } in
      λ m of. noted_by false (lands_in format library seen b c state m) c state state n old new (passed_lands format library seen b c state is.1 m of) note

-- ---- the file after a record

read_with : (n : ℕ) (c : Change) (state : Option (List ℕ)) (o : Option (List TxName)) (f : File) → with_read (is_some o) (changes c state) n f ≡ file_with n c o f
read_with n c state None f = refl
read_with n c state (Some ns) f = refl

mark_of : (format : ℕ) (alone : Bool) (w : Made) (m : Making) (body : List ℕ) (r : Record) → m ≡ making_of alone w → read_record_in format body ≡ Some r → mark_in format m body ≡ mark_by format w (Some r)
mark_of format true w m body r is read = ap (λ (x : Making). mark_in format x body) is ∙ ap (λ (o : Option Record). mark_by format w o) read
mark_of format false w m body r is read = ap (λ (x : Making). mark_in format x body) is ∙ ap (λ (o : Option Record). mark_by format w o) read

file_then : (alone : Bool) (w : Made) (m : Making) (notes : FileNotes) → m ≡ making_of alone w → IsFileOf notes m → file_in notes ≡ w.book.file
file_then true w m notes is file = subst (IsFileOf notes) is file
file_then false w m notes is file = subst (IsFileOf notes) is file

module _ (format shelf place : ℕ) (body : List ℕ) (library : Library) (fed alone : Bool) (before : InOrder (Unit {0})) (b : kept.Book) (m : Making) (is : IsMadeAs shelf (place + 1) fed alone b library before m) (old new : FileNotes) where
  abbrev w : Made
  w = is.whole

  -- where the file is that with one body more, and so are its marks
  abbrev NotesOne : Type 0
  NotesOne = IsFileOf old m → IsFileOf new (with_body_at format setup_of_texts shelf place body m) × (marks_in new ≡ marks_in old ++ mark_in format m body)

  of_made : IsOfMade library before b w
  of_made = (beside_file fed (place + 1) w.book.file, (is.book, is.tells))

  -- the record of a change, which makes a book
  pub change_noted : (c : Change) (state : Option (List ℕ)) (k : Made) → read_record_in format body ≡ Some (changes c state) → with_body_at format setup_of_texts shelf place body m ≡ change_next format place (length body) w c state
      → with_body_at format setup_of_texts shelf place body m ≡ made k → NotesRecord format library before b (changes c state) (length body) old new → NotesOne
  change_noted c state k read comes makes note here =
      let x = landing_of format w c (told_of format w c state) in
      let its = note w of_made in
      let file : file_in new ≡ k.book.file =
      its.file
      ∙ (ap (with_read (is_some x) (changes c state) (length body)) (file_then alone w m old is.is here)
      ∙ (read_with (length body) c state x w.book.file ∙ sym (next_file format place (length body) w c state k (sym comes ∙ makes)))) in (
        subst (IsFileOf new) (sym makes) file,
        its.marks ∙ ap (λ (ts : List Bool). marks_in old ++ ts) (sym (mark_of format alone w m body (changes c state) is.is read)),
      )

  -- that of a number, which stands directly after the first one
  pub draw_noted : (number : ℕ) → alone ≡ true → read_record_in format body ≡ Some (draws number) → NotesRecord format library before b (draws number) (length body) old new → NotesOne
  draw_noted number first read note here =
      let second : m ≡ begun w = is.is ∙ ap (λ (t : Bool). making_of t w) first in
      let makes : with_body_at format setup_of_texts shelf place body m ≡ made (with_drawn_number number w) =
      ap (with_body_at format setup_of_texts shelf place body) second ∙ ap (second_at format setup_of_texts place (length body) w) read in
      let begins_so = is.first first in
      let bare : with_drawn number w.book.file ≡ (with_drawn_number number w).book.file =
      subst (λ (y : Made). with_drawn number y.book.file ≡ (with_drawn_number number y).book.file) (sym begins_so.2) refl in
      let file : file_in new ≡ (with_drawn_number number w).book.file = note.0 ∙ (ap (with_drawn number) (file_then alone w m old is.is here) ∙ bare) in (
        subst (IsFileOf new) (sym makes) file,
        note.1 ∙ (sym (append-nil (marks_in old)) ∙ ap (λ (ts : List Bool). marks_in old ++ ts) (sym (mark_of format alone w m body (draws number) is.is read))),
      )

  -- that of another setup
  pub setup_noted : (named : List (List ℕ × List ℕ)) (scripts : List Named) → read_record_in format body ≡ Some (renews named) → setup_of_texts named ≡ Some scripts
      → file_in new ≡ with_line (renewed_line scripts (length body)) (file_in old) → marks_in new ≡ marks_in old ++ true ∷ [] → NotesOne
  setup_noted named scripts read reads file marks here =
      let k = beside w.earlier (resettled (length body) scripts (plain w)) in
      let makes : with_body_at format setup_of_texts shelf place body m ≡ made k = by_alone alone is.is ∙ ap (next_setup place (length body) w) reads in (
        subst (IsFileOf new) (sym makes) (file ∙ ap (with_line (renewed_line scripts (length body))) (file_then alone w m old is.is here)),
        marks ∙ ap (λ (ts : List Bool). marks_in old ++ ts) (sym (mark_of format alone w m body (renews named) is.is read)),
      )
    where
      by_alone : (t : Bool) → m ≡ making_of t w → with_body_at format setup_of_texts shelf place body m ≡ next_setup place (length body) w (setup_of_texts named)
      by_alone true e = ap (with_body_at format setup_of_texts shelf place body) e ∙ ap (second_at format setup_of_texts place (length body) w) read
      by_alone false e = ap (with_body_at format setup_of_texts shelf place body) e ∙ ap (next_at format setup_of_texts place (length body) w) read

-- a later record that tells no setup, which makes a book
pub later_noted : (format shelf place : ℕ) (body : List ℕ) (library : Library) (fed alone : Bool) (before after : InOrder (Unit {0})) (b d : kept.Book) (old new : FileNotes) (r : Record)
    → read_record_in format body ≡ Some r → may_stand alone (length library.setup) r ≡ true → NotesMade format library before b r (length body) old new (Some d)
    → (m : Making) → IsMadeAs shelf (place + 1) fed alone b library before m → IsMadeAs shelf (place + 5 + length body + 1) fed false d library after (with_body_at format setup_of_texts shelf place body m)
    → IsFileOf old m → IsFileOf new (with_body_at format setup_of_texts shelf place body m) × (marks_in new ≡ marks_in old ++ mark_in format m body)
later_noted format shelf place body library fed alone before after b d old new (begins s named) read stands note m is then_is = absurd (let no : ⊥ = cc stands in no)
later_noted format shelf place body library fed alone before after b d old new (changes c state) read stands note m is then_is =
    change_noted format shelf place body library fed alone before b m is old new c state then_is.whole read (comes_at format shelf place body library fed alone before b m is c state read stands) then_is.is note
later_noted format shelf place body library fed alone before after b d old new (renews named) read stands note m is then_is = absurd (let no : ⊥ = cc stands in no)
later_noted format shelf place body library fed alone before after b d old new follows read stands note m is then_is = absurd (let no : ⊥ = cc stands in no)
later_noted format shelf place body library fed alone before after b d old new promotes read stands note m is then_is = absurd (let no : ⊥ = cc stands in no)
later_noted format shelf place body library fed alone before after b d old new (draws number) read stands note m is then_is = draw_noted format shelf place body library fed alone before b m is old new number stands read note

-- a record of another setup, where a book goes on
pub renewed_noted : (format shelf place : ℕ) (body : List ℕ) (library : Library) (fed alone : Bool) (before : InOrder (Unit {0})) (b : kept.Book) (old new : FileNotes) (named : List (List ℕ × List ℕ)) (f : Found)
    → read_record_in format body ≡ Some (renews named) → Renews place b library named f → NotesSetup named (length body) old new f
    → (m : Making) → IsMadeAs shelf (place + 1) fed alone b library before m → NotesWith format shelf place body old new f m
renewed_noted format shelf place body library fed alone before b old new named (found.Made d next) read renewal note m is =
    let scripts = (library_of next).setup in
    let here = note scripts renewal.1.read in
    setup_noted format shelf place body library fed alone before b m is old new named scripts read renewal.1.read here.0 here.1
renewed_noted format shelf place body library fed alone before b old new named found.Nothing read renewal note m is = absurd renewal
renewed_noted format shelf place body library fed alone before b old new named (found.Damaged p) read renewal note m is = tt
renewed_noted format shelf place body library fed alone before b old new named (found.Other p) read renewal note m is = absurd renewal
renewed_noted format shelf place body library fed alone before b old new named found.Memory read renewal note m is = tt

-- before the record of a setup nothing is known of the file, and no record has a mark
unmarked : (fed : Bool) (shelf n : ℕ) (notes : FileNotes) (m : Making) → IsBefore fed shelf n m → IsFileOf notes m → marks_in notes ≡ []
unmarked true shelf n notes m (e, long) here = subst (IsFileOf notes) e here
unmarked false shelf n notes m (inl (e, long)) here = subst (IsFileOf notes) e here
unmarked false shelf n notes m (inr (e, long)) here = subst (IsFileOf notes) e here

none_in : (fed : Bool) (shelf n : ℕ) (format : ℕ) (body : List ℕ) (m : Making) → IsBefore fed shelf n m → mark_in format m body ≡ []
none_in true shelf n format body m (e, long) = ap (λ (x : Making). mark_in format x body) e
none_in false shelf n format body m (inl (e, long)) = ap (λ (x : Making). mark_in format x body) e
none_in false shelf n format body m (inr (e, long)) = ap (λ (x : Making). mark_in format x body) e

still : (fed : Bool) (shelf n : ℕ) (notes : FileNotes) (m : Making) → IsBefore fed shelf n m → marks_in notes ≡ [] → IsFileOf notes m
still true shelf n notes m (e, long) none = subst (IsFileOf notes) (sym e) none
still false shelf n notes m (inl (e, long)) none = subst (IsFileOf notes) (sym e) none
still false shelf n notes m (inr (e, long)) none = subst (IsFileOf notes) (sym e) none

-- a record that tells before that whether the shelf follows
pub turned_noted : (format shelf place : ℕ) (body : List ℕ) (fed then_fed : Bool) (seen : InOrder (Unit {0})) (old new : FileNotes) (m : Making) → new ≡ old → IsNothing shelf (place + 1) fed seen m
    → IsNothing shelf (place + 5 + length body + 1) then_fed seen (with_body_at format setup_of_texts shelf place body m)
    → NotesWith format shelf place body old new found.Nothing m
turned_noted format shelf place body fed then_fed seen old new m same none then_none = λ here.
    let bare = unmarked fed shelf (place + 1) old m none.before here in
    let as_before : marks_in new ≡ marks_in old = ap marks_in same in (
      still then_fed shelf (place + 5 + length body + 1) new (with_body_at format setup_of_texts shelf place body m) then_none.before (as_before ∙ bare),
      as_before ∙ (sym (append-nil (marks_in old)) ∙ ap (λ (ts : List Bool). marks_in old ++ ts) (sym (none_in fed shelf (place + 1) format body m none.before))),
    )

-- ---- the bodies that are kept after a record

pub copied_on : {E : Type 0} (x : Result (Unit {0}) E) (P : Type 0) → is_err x ≡ false → OnOk x P → P
copied_on (Ok u) P whole h = h
copied_on (Err e) P whole h = absurd (let no : ⊥ = cc whole in no)

where_made : (f : Found) (P : Type 0) → P → WhereMade f P
where_made found.Nothing P h = h
where_made (found.Made b library) P h = h
where_made (found.Damaged p) P h = tt
where_made (found.Other p) P h = tt
where_made found.Memory P h = tt

anew_in : (format : ℕ) (alone : Bool) (w : Made) (m : Making) (body : List ℕ) (r : Record) (bodies : List (List ℕ)) → m ≡ making_of alone w → read_record_in format body ≡ Some r → IsAnewBy format w body (Some r) bodies
    → IsAnewIn format m body bodies
anew_in format true w m body r bodies is read h = subst (λ (x : Making). IsAnewIn format x body bodies) (sym is) (subst (λ (o : Option Record). IsAnewBy format w body o bodies) (sym read) h)
anew_in format false w m body r bodies is read h = subst (λ (x : Making). IsAnewIn format x body bodies) (sym is) (subst (λ (o : Option Record). IsAnewBy format w body o bodies) (sym read) h)

-- that of another setup is copied
pub renewed_anew : (format shelf place : ℕ) (body : List ℕ) (library : Library) (fed alone : Bool) (before : InOrder (Unit {0})) (b : kept.Book) (old new : Vec (List ℕ)) (named : List (List ℕ × List ℕ)) (f : Found)
    → read_record_in format body ≡ Some (renews named) → KeepsAnew format body old new → (m : Making) → IsMadeAs shelf (place + 1) fed alone b library before m → AnewWith format body old new f m
renewed_anew format shelf place body library fed alone before b old new named f read keeps m is =
    where_made f ((bodies : List (List ℕ)) × (IsAnewIn format m body bodies × HasAnew format bodies old new))
    (body ∷ [], (anew_in format alone is.whole m body (renews named) (body ∷ []) is.is read refl, keeps))

-- and so is what stands before that
pub first_anew : (format shelf n : ℕ) (body : List ℕ) (fed : Bool) (old new : Vec (List ℕ)) (f : Found) → KeepsAnew format body old new → (m : Making) → IsBefore fed shelf n m → AnewWith format body old new f m
first_anew format shelf n body fed old new f keeps m none =
    where_made f ((bodies : List (List ℕ)) × (IsAnewIn format m body bodies × HasAnew format bodies old new))
    (body ∷ [], (by_role fed none, keeps))
  where
    by_role : (t : Bool) → IsBefore t shelf n m → IsAnewIn format m body (body ∷ [])
    by_role true (e, long) = subst (λ (x : Making). IsAnewIn format x body (body ∷ [])) (sym e) refl
    by_role false (inl (e, long)) = subst (λ (x : Making). IsAnewIn format x body (body ∷ [])) (sym e) refl
    by_role false (inr (e, long)) = subst (λ (x : Making). IsAnewIn format x body (body ∷ [])) (sym e) refl

-- what is told is kept as the newest format has it, but where it tells a number
pub anew_told : (format : ℕ) (library : Library) (seen : InOrder (Unit {0})) (b : kept.Book) (r : Record) (l : Logged) (old new : Vec (List ℕ)) (x : Result (Option kept.Book) AllocError)
    → IsRenewed format library b r (renewed.Told l) → KeepsTold format (logged_of l) old new → IfOk x (MakesAnew format library seen b r old new)
anew_told format library seen b r l old new (Err e) is keeps = tt
anew_told format library seen b (begins shelf named) l old new (Ok o) is keeps = tt
anew_told format library seen b (renews named) l old new (Ok o) is keeps = tt
anew_told format library seen b follows l old new (Ok o) is keeps = tt
anew_told format library seen b promotes l old new (Ok o) is keeps = tt
anew_told format library seen b (draws number) l old new (Ok None) is keeps = tt
anew_told format library seen b (draws number) l old new (Ok (Some d)) is keeps =
    let same : new.items ≡ old.items = subst (λ (q : Record). KeepsTold format q old new) is keeps in
    λ m of body. ([], (refl, same ∙ none_kept (format == newest) old.items))
  where
    none_kept : (t : Bool) (xs : List (List ℕ)) → xs ≡ (if t then xs else xs ++ [])
    none_kept true xs = refl
    none_kept false xs = sym (append-nil xs)
anew_told format library seen b (changes c state) l old new (Ok None) is keeps = tt
anew_told format library seen b (changes c state) l old new (Ok (Some d)) is keeps =
    let now = is.0 in
    let told_body = body_of (changes c now) in
    let has : HasAnew format (told_body ∷ []) old new = subst (λ (q : Record). KeepsTold format q old new) is.1.0 keeps in
    λ m of body.
    let bytes : now ≡ state_now format m c state = is.1.1.bytes m of.0 0 0 of.1.0 of.1.1.states in
    (told_body ∷ [], ((told_body, (refl, landing_is (is_some (landing_of format m c (told_of format m c state))) (body_of (changes c (state_now format m c state))) told_body (ap (λ (s : Option (List ℕ)). body_of (changes c s)) bytes))), has))
  where
    landing_is : (t : Bool) (now body : List ℕ) → body ≡ now → IsOfLanding t now body
    landing_is true now body same = same
    landing_is false now body same = tt

-- of what is passed over, any bytes
pub anew_passed : (format : ℕ) (library : Library) (seen : InOrder (Unit {0})) (b d : kept.Book) (r : Record) (bytes : List ℕ) (old new : Vec (List ℕ)) → IsRenewed format library b r renewed.Passed → HasAnew format (bytes ∷ []) old new
    → MakesAnew format library seen b r old new (Some d)
anew_passed format library seen b d (begins shelf named) bytes old new is has = tt
anew_passed format library seen b d (renews named) bytes old new is has = tt
anew_passed format library seen b d follows bytes old new is has = tt
anew_passed format library seen b d promotes bytes old new is has = tt
anew_passed format library seen b d (draws number) bytes old new is has = absurd is
anew_passed format library seen b d (changes c state) bytes old new is has = λ m of body. (bytes ∷ [], ((bytes, (refl, of_none m (passed_lands format library seen b c state is.1 m of))), has))
  where
    of_none : (m : Made) → false ≡ is_some (landing_of format m c (told_of format m c state))
        → IsOfLanding (is_some (landing_of format m c (told_of format m c state))) (body_of (changes c (state_now format m c state))) bytes
    of_none m none = subst (λ (t : Bool). IsOfLanding t (body_of (changes c (state_now format m c state))) bytes) none tt

-- a later record that tells no setup, which makes a book
pub later_anew : (format shelf place : ℕ) (body : List ℕ) (library : Library) (fed alone : Bool) (before : InOrder (Unit {0})) (b d : kept.Book) (old new : Vec (List ℕ)) (r : Record) → read_record_in format body ≡ Some r
    → may_stand alone (length library.setup) r ≡ true → MakesAnew format library before b r old new (Some d) → (m : Making) → IsMadeAs shelf (place + 1) fed alone b library before m
    → (bodies : List (List ℕ)) × (IsAnewIn format m body bodies × HasAnew format bodies old new)
later_anew format shelf place body library fed alone before b d old new (begins s named) read stands anew m is = absurd (let no : ⊥ = cc stands in no)
later_anew format shelf place body library fed alone before b d old new (changes c state) read stands anew m is =
    let h = anew is.whole (beside_file fed (place + 1) is.whole.book.file, (is.book, is.tells)) body in
    (h.0, (anew_in format alone is.whole m body (changes c state) h.0 is.is read h.1.0, h.1.1))
later_anew format shelf place body library fed alone before b d old new (renews named) read stands anew m is = absurd (let no : ⊥ = cc stands in no)
later_anew format shelf place body library fed alone before b d old new follows read stands anew m is = absurd (let no : ⊥ = cc stands in no)
later_anew format shelf place body library fed alone before b d old new promotes read stands anew m is = absurd (let no : ⊥ = cc stands in no)
later_anew format shelf place body library fed alone before b d old new (draws number) read stands anew m is =
    let h = anew is.whole (beside_file fed (place + 1) is.whole.book.file, (is.book, is.tells)) body in
    (h.0, (anew_in format alone is.whole m body (draws number) h.0 is.is read h.1.0, h.1.1))
