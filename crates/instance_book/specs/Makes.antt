-- What a call makes of a book, and of a list of instances.
use Rattle.std.specs.Prelude.{◌≡◌, ℕ, List, length, Option, option_map, IfSome, ⊤, None, ◌≤◌, ◌^◌, max}
use Rattle.std.specs.Borrow.{Bor}
use Rattle.script_nodes.specs.Setup.{Named, Library}
use Rattle.journal_records.specs.ReplaySpec.Book as spec
use Rattle.journal_records.specs.ReplaySpec.Change.{put_instance}
use Rattle.instance_book.specs.declared.numbered.Numbered.{Numbered}
use Rattle.instance_book.specs.declared.in_order.InOrder.{InOrder}
use Rattle.instance_book.specs.declared.page.KeptPage.{KeptPage}
use Rattle.instance_book.specs.declared.instance.KeptInstance.{KeptInstance}
use Rattle.instance_book.specs.declared.book.Book.{Book}
use Rattle.instance_book.specs.Views.{instance_of, instances_of, Beside, book_of}
use Rattle.kept_states.specs.MachineStates.Machine.{Suspended}
use Rattle.instance_book.specs.Places.{Source, own, given, seen_from, IsKept, AreKept, IsPlaced, ArePlaced, IsNextAt}
use Rattle.journal_records.specs.ReplaySpec.Rules.{Rules}
use Rattle.journal_records.specs.ReplaySpec.Book.{reopened}

-- whatever the scripts, f made the new instances of the old ones
abbrev pub AllBecome : (List spec.Instance → List spec.Instance) → (old new : InOrder KeptInstance) → Type 0
AllBecome f old new = (all : List Named) → instances_of all new ≡ f (instances_of all old)

-- whatever the scripts, the new instances are the old ones with this one put among them
abbrev pub PutsInstance : Numbered KeptInstance → (old new : InOrder KeptInstance) → Type 0
PutsInstance i old new =
    (all : List Named) → instances_of all new ≡ put_instance (instance_of all i) (instances_of all old)

-- what is lent is the instance of a number, if there is one
abbrev pub IsInstanceAt : ℕ → InOrder KeptInstance → Option (Bor (Numbered KeptInstance)) → Type 0
IsInstanceAt n is i =
    (all : List Named) → option_map (λ x. instance_of all x.now) i ≡ spec.instance_at n (instances_of all is)

-- where each instance is of one of the scripts and each page has its state, so it is with the one that is lent, if any
abbrev pub IsKeptAmong : InOrder KeptInstance → Option (Bor (Numbered KeptInstance)) → Type 0
IsKeptAmong is i =
    (all : List Named) (shelf : Source ℕ) → AreKept all shelf is → IfSome i (λ x. IsKept all shelf x.now)

-- where each instance is of one of the scripts, so is the one that is lent, if any
abbrev pub IsPlacedAmong : InOrder KeptInstance → Option (Bor (Numbered KeptInstance)) → Type 0
IsPlacedAmong is i = (all : List Named) → ArePlaced all is → IfSome i (λ x. IsPlaced all x.now)

-- Whatever the library and what stands beside the book, f made the new book of the old one, under that library.
abbrev pub MakesUnder : (Library → spec.Book → spec.Book) → (old new : Book) → Type 0
MakesUnder f old new =
    (library : Library) (beside : Beside) → book_of library beside new ≡ f library (book_of library beside old)

-- a call made of a book what this function makes of it, by the same library
abbrev pub Makes : (spec.Book → spec.Book) → (old new : Book) → Type 0
Makes f old new = MakesUnder (λ library. f) old new

-- a call left a book as it was
abbrev pub StaysSame : (old new : Book) → Type 0
StaysSame old new = Makes (λ b. b) old new

-- how many instances there are
abbrev pub count_of : Book → ℕ
count_of b = length b.instances.things.items

-- each instance of the book is of one of the scripts
abbrev pub HasPlaces : List Named → Book → Type 0
HasPlaces all b = ArePlaced all b.instances

-- where each instance of the old book is of one of the scripts, so is each of the new one
abbrev pub KeepsPlaces : (old new : Book) → Type 0
KeepsPlaces old new = (all : List Named) → HasPlaces all old → HasPlaces all new

-- where the states of a book's pages are from: their chains, which are looked at from this shelf, or given states
abbrev pub shelf_from : Source ⊤ → (shelf : ℕ) → Source ℕ
shelf_from source shelf = seen_from (λ every. shelf) source

-- each instance of the book is of one of the scripts, and each page has its state: that of its chain, or the one that is given to it
abbrev pub HasStatesFrom : Source ⊤ → List Named → Book → Type 0
HasStatesFrom source all b = AreKept all (shelf_from source b.shelf) b.instances

-- each instance of the book is of one of the scripts, and each page has the state of its chain
abbrev pub HasItsStates : List Named → Book → Type 0
HasItsStates all b = AreKept all (own b.shelf) b.instances

-- each instance of the book is of one of the scripts, and each page has a state that was given to it, which fits the script
abbrev pub HasSomeStates : List Named → Book → Type 0
HasSomeStates all b = (states : ℕ → Option Suspended) × HasStatesFrom (given states) all b

-- whichever states are given to the pages of the book, they have them, as where there is no page
abbrev pub HasWhatIsGiven : Book → Type 0
HasWhatIsGiven b = (states : ℕ → Option Suspended) (all : List Named) → HasStatesFrom (given states) all b

-- where each page of the old book has its state, so has each of the new one
abbrev pub KeepsStates : (old new : Book) → Type 0
KeepsStates old new =
    (source : Source ⊤) (all : List Named) → HasStatesFrom source all old → HasStatesFrom source all new

-- where this is the next page of its instance and has its state, and each old page has its own, so has each new one
abbrev pub StayKeptNext : (instance : ℕ) → Numbered KeptPage → (old new : InOrder KeptInstance) → Type 0
StayKeptNext n p old new =
    (all : List Named) (shelf : Source ℕ) → IsNextAt shelf (instances_of all old) n p → AreKept all shelf old → AreKept all shelf new

-- what a visit runs under beside no journal: its record is measured by whoever keeps one
abbrev pub rules_with : (fuel life instances pages : ℕ) → Rules
rules_with fuel life instances pages =
    record { fuel = fuel; life = life; instances = instances; pages = pages; journal = None }

-- the book is made so, as after a crash, and its pages stay
pub record Reopens (f : spec.Book → spec.Book) (old new : Book) : Type 0 where
  pub book : (library : Library) (beside : Beside)
      → book_of library (record beside { down = None }) new ≡ reopened (f (book_of library beside old))
  pub states : KeepsStates old new

-- the number that is counted stays one that can be drawn
abbrev pub StaysLow : (old new : Book) → Type 0
StaysLow old new = old.logged ≤ 2 ^ 62 → new.logged ≤ 2 ^ 62

-- the book where records count up to this number
abbrev pub logged_to : ℕ → spec.Book → spec.Book
logged_to n b = record b { logged = max b.logged n }
