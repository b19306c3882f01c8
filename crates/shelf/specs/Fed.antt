-- How far a shelf that follows another one's journal was fed its records.
use Rattle.std.specs.Prelude.{◌≡◌, ℕ, Bool, true, false, List, [], length, None, Result, Ok, Err}
use Rattle.script_nodes.specs.Setup.{Named, Library}
use Rattle.script_nodes.specs.Views.{library_of}
use Rattle.script_nodes.specs.declared.library.Library as kept
use Rattle.replay_spec.specs.Rules.{first_file}
use Rattle.page_journal.specs.Records.{at_rest}
use Rattle.file_copies.specs.OfFileNotes.declared.notes.FileNotes.{FileNotes}
use Rattle.file_copies.specs.OfFileNotes.Files.{file_in, marks_in}
use Rattle.book_recovery.specs.InstanceBook.Makes.{HasPlaces, HasItsStates, HasWhatIsGiven}
use Rattle.book_recovery.specs.InstanceBook.Swept.{IsEmpty}
use Rattle.book_recovery.specs.InstanceBook.declared.in_order.InOrder.{InOrder}
use Rattle.book_recovery.specs.InstanceBook.declared.book.Book.{Book}
use Rattle.book_recovery.specs.JournalSpec.Before.{Made}
use Rattle.book_recovery.specs.JournalSpec.Making.{Making, waits, began, book_of}
use Rattle.book_recovery.specs.JournalSpec.Reading.{AreAllBytes}
use Rattle.book_recovery.specs.SetupReader.Texts.{setup_of_texts}
use Rattle.book_recovery.specs.declared.found.Found.{Found}
use Rattle.book_recovery.specs.declared.found.Found.TheVariants as found
use Rattle.book_recovery.specs.Reading.{seen_by, TellsOf, IsUnderWay, IsMadeAs, making_of}
use Rattle.shelf.specs.declared.begin.BeginFault.{BeginFault}
use Rattle.shelf.specs.declared.begin.BeginFault.TheVariants as fault
use Rattle.shelf.specs.declared.follower.Follower.{Follower}
use Rattle.shelf.specs.declared.follower.Fed.{Fed}
use Rattle.shelf.specs.declared.follower.Fed.TheVariants as fed

-- Where the shelf was fed no record, no number was seen. Else its book is made of the records so far.
abbrev pub IsFedAs : Fed → (shelf : ℕ) → InOrder (Unit {0}) → Book → Library → Type 0
IsFedAs fed.Waits shelf seen b library = seen_by seen ≡ []
IsFedAs fed.Begun shelf seen b library = IsUnderWay shelf true seen b library
IsFedAs fed.Made shelf seen b library = IsUnderWay shelf false seen b library

-- The records make a book, of one record or of more: they told of the numbers that were seen, and of the states of the book's pages. The first
-- of them alone makes an empty book.
pub record IsMadeSoFar (alone : Bool) (shelf : ℕ) (seen : InOrder (Unit {0})) (b : Book) (library : Library) (m : Making) : Type 0 where
  pub whole : Made
  pub is : m ≡ making_of alone whole
  pub tells : TellsOf library seen b whole.earlier
  pub first : alone ≡ true → (place n : ℕ) × (whole ≡ began true shelf place n library.setup)

-- what the records of the shelf's file make is what it was fed
abbrev pub IsFedBy : Fed → (shelf : ℕ) → InOrder (Unit {0}) → Book → Library → Making → Type 0
IsFedBy fed.Waits shelf seen b library m = m ≡ waits shelf
IsFedBy fed.Begun shelf seen b library m = IsMadeSoFar true shelf seen b library m
IsFedBy fed.Made shelf seen b library m = IsMadeSoFar false shelf seen b library m

-- How far the shelf was fed is what the records of its file make, which is so long.
abbrev pub IsFedAt : Fed → (shelf length : ℕ) → InOrder (Unit {0}) → Book → Library → Making → Type 0
IsFedAt fed.Waits shelf n seen b library m = (m ≡ waits shelf) × (n ≡ 15)
IsFedAt fed.Begun shelf n seen b library m = IsMadeAs shelf n true true b library seen m
IsFedAt fed.Made shelf n seen b library m = IsMadeAs shelf n true false b library seen m

-- How far the shelf was fed is what some records make, which are bytes: where its disk tells them, its own.
pub record IsFedSome (x : Fed) (shelf : ℕ) (seen : InOrder (Unit {0})) (b : Book) (library : Library) : Type 0 where
  pub bodies : List (List ℕ)
  pub bytes : AreAllBytes bodies
  pub at : IsFedAt x shelf (length (at_rest bodies)) seen b library (book_of setup_of_texts shelf bodies)

-- ---- what is read of its journal

-- how far a shelf was fed of whose records this was found, and whether the first of them stands alone
abbrev pub fed_of : Found → (alone : Bool) → Fed
fed_of (found.Made b library) true = fed.Begun
fed_of (found.Made b library) false = fed.Made
fed_of _ alone = fed.Waits

-- what it keeps, where its records told of these numbers
abbrev pub follower_of : Found → (alone : Bool) → InOrder (Unit {0}) → Follower
follower_of x alone seen = record { seen = seen; fed = fed_of x alone; fallen = None }

-- a shelf that was fed no record has an empty book and no scripts, and nothing is known of its file but that
pub record IsWaiting (shelf : ℕ) (notes : FileNotes) (o : Book × kept.Library) : Type 0 where
  pub empty : IsEmpty shelf o.0
  pub placed : (all : List Named) → HasPlaces all o.0
  pub states : (all : List Named) → HasItsStates all o.0
  pub given : HasWhatIsGiven o.0
  pub all : (library_of o.1).all ≡ []
  pub setup : (library_of o.1).setup ≡ []
  pub file : file_in notes ≡ first_file 0 []
  pub marks : marks_in notes ≡ []

-- what a shelf goes on with that follows, of whose records this was found, with what is known of them; or why there is no book
abbrev pub IsFedOf : (shelf : ℕ) → Found → (known notes : FileNotes) → Result (Book × kept.Library) BeginFault → Type 0
IsFedOf shelf (found.Made b library) known notes (Ok o) = (o ≡ (b, library)) × (notes ≡ known)
IsFedOf shelf found.Nothing known notes (Ok o) = IsWaiting shelf notes o
IsFedOf shelf (found.Damaged place) known notes (Err e) = e ≡ fault.Damaged place
IsFedOf shelf (found.Other place) known notes (Err e) = e ≡ fault.Other place
IsFedOf shelf found.Memory known notes (Err e) = e ≡ fault.Memory
IsFedOf shelf _ known notes result = ⊥
