-- What reading a journal finds.
use Rattle.std.specs.Prelude.{◌≡◌, ◌⊎◌, ℕ, Bool, true, false, Some, None, ⊤}
use Rattle.script_nodes.specs.Setup.{Library}
use Rattle.script_nodes.specs.Views.{library_of}
use Rattle.replay_spec.specs.Book as spec
use Rattle.replay_spec.specs.Book.{File, reopened}
use Rattle.replay_spec.specs.Invariant.{IsOrderly}
use Rattle.book_redo.specs.InstanceBook.declared.book.Book.{Book}
use Rattle.book_redo.specs.InstanceBook.Views.{Beside, book_of}
use Rattle.book_redo.specs.InstanceBook.Makes.{HasPlaces, HasSomeStates, HasItsStates}
pub use Rattle.book_redo.specs.Redo.{HasToldStates}
use Rattle.setup_reader.specs.Texts.{setup_of_texts}
use Rattle.book_redo.specs.JournalSpec.Before.{Made}
use Rattle.book_redo.specs.JournalSpec.Making.{Making, nothing, waits, waited, damaged, other, made_in}
use Rattle.book_redo.specs.JournalSpec.Opening.{IsRead}
use Rattle.book_redo.specs.JournalSpec.Whole.{HasWholeScripts}
use Rattle.book_redo.specs.JournalSpec.Spelling.{IsInRange}
use Rattle.book_recovery.specs.declared.found.Found.{Found}
use Rattle.book_recovery.specs.declared.found.Found.TheVariants.{Nothing, Made as Found_made, Damaged, Other, Memory}

-- what stands beside a book, where the shelf follows another one's journal or does not, its own is this long, its file is this one, and nothing
-- is in doubt
abbrev pub beside_file : (fed : Bool) → (length : ℕ) → File → Beside
beside_file fed n f = record { length = n; file = f; down = None; follows = fed }

-- the book is as after a crash
abbrev pub IsReopened : spec.Book → Type 0
IsReopened b = b ≡ reopened b

-- The book that was found is of this shelf. Under the library that was found it is the one that the records make, where the journal is this
-- long, with the states that they told, as after a crash; and the shelf follows another one's journal, or does not.
pub record FindsBook (shelf length : ℕ) (fed : Bool) (b : Book) (library : Library) (making : Making) : Type 0 where
  pub whole : Made
  pub is : made_in making ≡ Some whole
  pub shelf_is : b.shelf ≡ shelf
  pub book : whole.book ≡ book_of library (beside_file fed length whole.book.file) b
  pub told : HasToldStates library.all whole.earlier.states b
  pub again : IsReopened whole.book

-- The records make no book but that of a shelf which waits, of this number: where it follows another one's journal it knows of no record of
-- that, and where it does not there is no record, or no more than that it followed.
abbrev pub FindsNone : (shelf : ℕ) → (fed : Bool) → Making → Type 0
FindsNone shelf true making = making ≡ waits shelf
FindsNone shelf false making = (making ≡ nothing) ⊎ (making ≡ waited)

-- What was found is what the records make of a shelf of this number, where the journal is this long and tells so whether the shelf follows
-- another one's; unless there was no memory.
abbrev pub Finds : (shelf length : ℕ) → (fed : Bool) → Found → Making → Type 0
Finds shelf length fed Nothing making = FindsNone shelf fed making
Finds shelf length fed (Found_made b library) making = FindsBook shelf length fed b (library_of library) making
Finds shelf length fed (Damaged place) making = making ≡ damaged place
Finds shelf length fed (Other place) making = making ≡ other place
Finds shelf length fed Memory making = ⊤

-- A book that a shelf of this number can go on with under this library, whatever the records were: each of its pages has a state that fits
-- its script, and the present setup is what its names and texts are read as.
pub record IsBookInOrder (shelf : ℕ) (b : Book) (library : Library) : Type 0 where
  pub placed : HasPlaces library.all b
  pub kept : HasSomeStates library.all b
  pub shelf_is : b.shelf ≡ shelf
  pub read : IsRead setup_of_texts library.setup
  pub orderly : (fed : Bool) (length : ℕ) (file : File) → IsOrderly (book_of library (beside_file fed length file) b)
  pub whole : (fed : Bool) (length : ℕ) (file : File) → HasWholeScripts (book_of library (beside_file fed length file) b)
  pub range : (fed : Bool) (length : ℕ) (file : File) → IsInRange (book_of library (beside_file fed length file) b)
  pub again : (fed : Bool) (length : ℕ) (file : File) → IsReopened (book_of library (beside_file fed length file) b)

-- what was found, where it is a book, is one that a shelf of this number can go on with
abbrev pub IsFoundInOrder : (shelf : ℕ) → Found → Type 0
IsFoundInOrder shelf (Found_made b library) = IsBookInOrder shelf b (library_of library)
IsFoundInOrder shelf _ = ⊤

-- where a book was found, each of its pages has the state of its chain
abbrev pub HasStates : Found → Type 0
HasStates (Found_made b library) = HasItsStates (library_of library).all b
HasStates _ = ⊤
