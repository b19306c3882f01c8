-- What one record more that was read adds to what is known of a file.
use Rattle.std.specs.Prelude.{◌≡◌, ℕ, ◌+◌, Bool, true, false, List, [], ◌∷◌, ◌++◌, Option, Some, None, is_some, ⊤}
use Rattle.script_nodes.specs.Setup.{Named, Library}
use Rattle.book_redo.specs.InstanceBook.declared.in_order.InOrder.{InOrder}
use Rattle.book_redo.specs.InstanceBook.declared.book.Book.{Book}
use Rattle.book_redo.specs.InstanceBook.Views.{Beside, book_of}
use Rattle.replay_spec.specs.Rules.{first_file}
use Rattle.replay_spec.specs.Book.{renewed}
use Rattle.replay_spec.specs.Change.{with_line}
use Rattle.journal_records.specs.Records.{Record, changes, draws}
use Rattle.journal_records.specs.Views.{logged_of}
use Rattle.book_redo.specs.JournalSpec.Before.{Made}
use Rattle.book_redo.specs.JournalSpec.Old.{told_of, landing_of}
use Rattle.file_notes.specs.declared.notes.FileNotes.{FileNotes}
use Rattle.file_notes.specs.Files.{file_in, marks_in, with_read, with_mark, with_drawn}
use Rattle.file_notes.specs.Notes.{note_read}
use Rattle.book_recovery.specs.declared.to_note.Noting.{Noting}
use Rattle.book_recovery.specs.declared.to_note.Noting.TheVariants.{Draws, Passes, Lands}
use Rattle.setup_reader.specs.Texts.{setup_of_texts}
use Rattle.book_recovery.specs.Reading.{TellsOf}
use Rattle.book_recovery.specs.declared.found.Found.{Found}
use Rattle.book_recovery.specs.declared.reader.Reader.{Reader}
use Rattle.book_redo.specs.Lands.{TellsLanding}
use Rattle.book_recovery.specs.Noting.{WhereMade}
use Rattle.book_recovery.specs.Anew.{HasAnew, IsAnewBy}
use Rattle.std.specs.Global.{Vec}

-- the number that a record tells, if it is one of a number
abbrev pub drawn_by : Record → Option ℕ
drawn_by (draws number) = Some number
drawn_by _ = None

-- records made this book, beside some journal, and what they told is of numbers that were seen
abbrev pub IsOfMade : Library → InOrder (Unit {0}) → Book → Made → Type 0
IsOfMade library seen b m = (beside : Beside) × ((m.book ≡ book_of library beside b) × TellsOf library seen b m.earlier)

-- a record of this length that was read has a note, which tells whether it lands
pub record TakesNote (lands : Bool) (r : Record) (length : ℕ) (old new : FileNotes) : Type 0 where
  pub file : file_in new ≡ with_read lands r length (file_in old)
  pub marks : marks_in new ≡ marks_in old ++ lands ∷ []

-- a record of the newest format has a note, which tells whether it lands in this book, whatever names its page is inside; one that tells a
-- number has none
abbrev pub TakesIfLands : Library → Book → Record → (again : Bool) → (length : ℕ) → (old new : FileNotes) → Type 0
TakesIfLands library b (changes c state) again n old new =
    (lands : Bool) × (TellsLanding library b (changes c state) again lands × TakesNote lands (changes c state) n old new)
TakesIfLands library b (draws number) again n old new = (file_in new ≡ with_drawn number (file_in old)) × (marks_in new ≡ marks_in old)
TakesIfLands library b r again n old new = ⊤

-- This is noted of a record after this book as soon as it is taken, of a number that was seen or was not, whose body is so long: that it
-- tells a number, that it is passed over, or that it lands.
abbrev pub IsNotingOf : Library → Book → Record → (again : Bool) → (length : ℕ) → Noting → Type 0
IsNotingOf library b r again n (Draws number) = drawn_by r ≡ Some number
IsNotingOf library b r again n (Passes long) = (drawn_by r ≡ None) × (TellsLanding library b r again false × (long ≡ n))
IsNotingOf library b r again n (Lands logged note long) =
    (drawn_by r ≡ None) × (TellsLanding library b r again true × ((logged_of logged.value ≡ r) × (long ≡ n)))

-- the note of a record that lands is its own
abbrev pub HasItsNote : Noting → Type 0
HasItsNote (Draws number) = ⊤
HasItsNote (Passes long) = ⊤
HasItsNote (Lands logged note long) = note ≡ note_read (logged_of logged.value) long

-- what is noted of a record adds this to what is known of its file
abbrev pub NotesBy : Noting → (old new : FileNotes) → Type 0
NotesBy (Draws number) old new = (file_in new ≡ with_drawn number (file_in old)) × (marks_in new ≡ marks_in old)
NotesBy (Passes long) old new = (file_in new ≡ file_in old) × (marks_in new ≡ marks_in old ++ false ∷ [])
NotesBy (Lands logged note long) old new =
    let r = logged_of logged.value in (file_in new ≡ with_read true r long (file_in old)) × (marks_in new ≡ marks_in old ++ with_mark true r ∷ [])

-- a record of this format that was read is noted after this book: one of a change lands in it as recovery decides, or not
abbrev pub NotesRecord : (format : ℕ) → Library → InOrder (Unit {0}) → Book → Record → (length : ℕ) → (old new : FileNotes) → Type 0
NotesRecord format library seen b (changes c state) n old new =
    (m : Made) → IsOfMade library seen b m → TakesNote (is_some (landing_of format m c (told_of format m c state))) (changes c state) n old new
NotesRecord format library seen b (draws number) n old new = (file_in new ≡ with_drawn number (file_in old)) × (marks_in new ≡ marks_in old)
NotesRecord format library seen b r n old new = ⊤

-- where a record was made again, or was passed over, it is noted
abbrev pub NotesMade : (format : ℕ) → Library → InOrder (Unit {0}) → Book → Record → (length : ℕ) → (old new : FileNotes) → Option Book → Type 0
NotesMade format library seen b r n old new None = ⊤
NotesMade format library seen b r n old new (Some c) = NotesRecord format library seen b r n old new

-- a reader notes a record that was made again or passed over
abbrev pub NotesRedone : Library → Book → Record → (length : ℕ) → (old new : Reader) → Option Book → Type 0
NotesRedone library b r n old new o = NotesMade old.format library old.seen b r n old.notes new.notes o

-- where a setup of these names and texts is told after others, its record of this length has a note
abbrev pub NotesSetup : (texts : List (List ℕ × List ℕ)) → (length : ℕ) → (old new : FileNotes) → Found → Type 0
NotesSetup texts n old new found =
    WhereMade found ((scripts : List Named) → setup_of_texts texts ≡ Some scripts
    → (file_in new ≡ with_line (renewed scripts n) (file_in old)) × (marks_in new ≡ marks_in old ++ true ∷ []))

-- where a setup of these names and texts is told by the first record of this length, the file is that with it alone
abbrev pub NotesFirst : (texts : List (List ℕ × List ℕ)) → (length : ℕ) → (new : FileNotes) → Found → Type 0
NotesFirst texts n new found =
    WhereMade found ((scripts : List Named) → setup_of_texts texts ≡ Some scripts → (file_in new ≡ first_file (14 + n) scripts) × (marks_in new ≡ []))

-- the body is kept that the newest format has of a record of this one after this book
abbrev pub KeepsRecord : (format : ℕ) → Library → InOrder (Unit {0}) → Book → Record → (old new : Vec (List ℕ)) → Type 0
KeepsRecord format library seen b r old new =
    (m : Made) → IsOfMade library seen b m → (body : List ℕ) → (bodies : List (List ℕ)) × (IsAnewBy format m body (Some r) bodies × HasAnew format bodies old new)

-- where a record was made again, or was passed over, the body is kept that the newest format has of it
abbrev pub MakesAnew : (format : ℕ) → Library → InOrder (Unit {0}) → Book → Record → (old new : Vec (List ℕ)) → Option Book → Type 0
MakesAnew format library seen b (changes c state) old new (Some d) = KeepsRecord format library seen b (changes c state) old new
MakesAnew format library seen b (draws number) old new (Some d) = KeepsRecord format library seen b (draws number) old new
MakesAnew format library seen b r old new o = ⊤

-- a reader keeps the body that the newest format has of a record which was made again or passed over
abbrev pub KeepsRedone : Library → Book → Record → (old new : Reader) → Option Book → Type 0
KeepsRedone library b r old new o = MakesAnew old.format library old.seen b r old.anew new.anew o
