-- What one record more makes of a shelf that follows another one's journal.
use Rattle.std.specs.Prelude.{◌≡◌, ◌⊎◌, ℕ, ◌+◌, Bool, true, false, List, [], length, Some, None, Result, Ok, Err, ⊤}
use Rattle.std.specs.declared.alloc.AllocError.{AllocError}
use Rattle.script_nodes.specs.Setup.{Library}
use Rattle.script_nodes.specs.Views.{library_of}
use Rattle.script_nodes.specs.declared.library.Library as told
use Rattle.page_journal.specs.Records.{newest}
use Rattle.setup_reader.specs.Texts.{setup_of_texts}
use Rattle.book_redo.specs.InstanceBook.declared.in_order.InOrder.{InOrder}
use Rattle.book_redo.specs.InstanceBook.declared.book.Book.{Book}
use Rattle.journal_records.specs.Records.{Record, changes}
use Rattle.book_redo.specs.JournalSpec.Before.{Made}
use Rattle.book_redo.specs.JournalSpec.Making.{Making, waits, damaged, other, made_in}
use Rattle.book_redo.specs.JournalSpec.Old.{with_body_at}
pub use Rattle.book_redo.specs.Redo.{IsUnchanged, UnlessTaken}
use Rattle.book_redo.specs.Told.{IsReadThere}
use Rattle.file_notes.specs.declared.notes.FileNotes.{FileNotes}
use Rattle.file_notes.specs.Files.{marks_in, StaysAsTold}
use Rattle.book_recovery.specs.declared.found.Found.{Found}
use Rattle.book_recovery.specs.Noting.{IsFileOf, NotesWith}
use Rattle.book_recovery.specs.Reading.{seen_by, Gives, IsMadeAs, IsUnderWay}

-- nothing is changed: neither the numbers that were seen, nor the book, nor the library, nor what is known of the file
pub record IsLeftAlone (before after : InOrder (Unit {0})) (old new : Book) (library next : told.Library) (known then_known : FileNotes) : Type 0 where
  pub seen : seen_by after ≡ seen_by before
  pub book : IsUnchanged old new
  pub scripts : library_of next ≡ library_of library
  pub notes : StaysAsTold known then_known

-- where what was found and known before is what the records make of a shelf that follows, so is what is known with one body more
abbrev pub TakesNotes : (shelf place : ℕ) → (body : List ℕ) → (alone : Bool) → (old : Found) → InOrder (Unit {0}) → (known then_known : FileNotes) → (new : Found) → Type 0
TakesNotes shelf place body alone old seen known then_known new =
    (m : Making) → Gives shelf (place + 1) true alone old seen m → NotesWith newest shelf place body known then_known new m

-- what the first body makes of a shelf of this number that waits, in a file of 15 bytes
abbrev pub begun_by : (shelf : ℕ) → (body : List ℕ) → Making
begun_by shelf body = with_body_at newest setup_of_texts shelf 14 body (waits shelf)

-- Where the first body is taken, this is the book that it makes, and no number was seen; else it makes none.
abbrev pub BeginsSo : (shelf : ℕ) → (body : List ℕ) → Book → Library → Result Bool AllocError → Type 0
BeginsSo shelf body b library (Ok true) =
    (seen : InOrder (Unit {0})) → seen_by seen ≡ [] → IsMadeAs shelf (20 + length body) true true b library seen (begun_by shelf body)
BeginsSo shelf body b library (Ok false) = (begun_by shelf body ≡ damaged 14) ⊎ (begun_by shelf body ≡ other 14)
BeginsSo shelf body b library (Err e) = ⊤

-- where the first body is taken, the book is under way
abbrev pub IsBegunAs : (shelf : ℕ) → Book → Library → Result Bool AllocError → Type 0
IsBegunAs shelf b library (Ok true) = (seen : InOrder (Unit {0})) → seen_by seen ≡ [] → IsUnderWay shelf true seen b library
IsBegunAs shelf b library (Ok false) = ⊤
IsBegunAs shelf b library (Err e) = ⊤

-- where the first body is taken, what is known of the file is so with it
abbrev pub BeginsNotes : (shelf : ℕ) → (body : List ℕ) → (known then_known : FileNotes) → Result Bool AllocError → Type 0
BeginsNotes shelf body known then_known (Ok true) =
    IsFileOf known (waits shelf) → IsFileOf then_known (begun_by shelf body) × (marks_in then_known ≡ marks_in known)
BeginsNotes shelf body known then_known (Ok false) = ⊤
BeginsNotes shelf body known then_known (Err e) = ⊤

-- where it is told whether a body stands there, so it is: the records make a book with it, or none
abbrev pub TellsStanding : Result Bool AllocError → Making → Type 0
TellsStanding (Ok true) m = (x : Made) × (made_in m ≡ Some x)
TellsStanding (Ok false) m = made_in m ≡ None
TellsStanding (Err e) m = ⊤

-- what is told of the state of a record's page can be read, where records made this book and told its pages' states; of one of no page nothing is told
abbrev pub IsReadBehind : Library → Book → Record → Bool → Type 0
IsReadBehind library b (changes c None) t = t ≡ true
IsReadBehind library b (changes c (Some state)) t = IsReadThere library b c state t
IsReadBehind library b r t = t ≡ true
