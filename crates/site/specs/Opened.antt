-- A shelf as it was opened, and what its disk stands for when its history is over.
use Rattle.std.specs.Prelude.{◌≡◌, ◌≤◌, ◌⊎◌, ℕ, List, Contains, true}
use mathlib.Core.List.{IsPrefix}
use Rattle.web_disk.specs.View.{View, LeavesOnly}
use Rattle.shelf.specs.SetupReader.Texts.{setup_of_texts}
use Rattle.shelf.specs.JournalSpec.Standing.{MakesIn, Stands}
use Rattle.replay_spec.specs.Book.{Book}
use Rattle.replay_spec.specs.Runs.{Shelf}
use Rattle.replay_spec.specs.Step.{kept, recovered}
use Rattle.shelf.specs.Events.{IsLeftAlone}
use Rattle.shelf.specs.Files.{LeavesNewest}
use Rattle.shelf.specs.Owning.{HoldsOwnRecords, StandsOwn}
use Rattle.history_spec.specs.Following.{IsAnsweredSo}
use Rattle.history_spec.specs.Histories.{Entry, IsLegal, IsOpened, book_behind}

-- A shelf as it was opened: its number; the rules of its events and its book; the nonces that its source gives; what contracts see of its
-- disk; and whether it was opened as an own shelf.
pub record Opened : Type 1 where
  pub number : ℕ
  pub start : Shelf
  pub nonces : ℕ → ℕ
  pub disk : View
  pub IsOwn : Type 0

-- the book of the shelf after this history
abbrev pub book_then : Opened → List Entry → Book
book_then o es = book_behind o.nonces o.start es

-- the history is legal from the opening on, by when the disk's count of faults is this
abbrev pub HasLegal : Opened → (now : ℕ) → List Entry → Type 0
HasLegal o now es = IsLegal o.nonces o.disk.faults now o.start es

-- a book where what is in doubt is kept, as the rules of the shelf measure it
abbrev pub with_doubt : Opened → Book → Book
with_doubt o b = recovered o.start.rules kept b.down b

-- an image of the disk makes some book of the shelf
abbrev pub MakesSome : Opened → (image : List ℕ) → Type 0
MakesSome o image = (b : Book) × MakesIn setup_of_texts o.number image b

-- An image of the disk has own records, and makes the book after a beginning of the history, with what is in doubt there or
-- without it.
pub record IsLeft (o : Opened) (es : List Entry) (image : List ℕ) : Type 0 where
  pub own : HoldsOwnRecords o.number image
  pub front : List Entry
  pub begins : IsPrefix front es
  pub makes : MakesIn setup_of_texts o.number image (book_then o front)
      ⊎ MakesIn setup_of_texts o.number image (with_doubt o (book_then o front))

-- A shelf that was opened as an own one has a legal history, and the disk stands for its book and is an own one; a crash at any
-- moment since the opening left what makes the book of a beginning of it.
pub record StandsForBook (told : Type 0) (o : Opened) (disk : View) (es : List Entry) : Type 0 where
  pub legal : HasLegal o disk.faults es
  pub stands : told → StandsOwn o.start.rules o.number disk (book_then o es)
  pub ever : told → LeavesOnly o.disk disk (IsLeft o es)

-- Nothing became of a shelf that followed another one's journal when it was opened: each entry was answered as such a shelf answers, so no
-- visit was shown a page; and its disk was left alone.
pub record HasFollowed (o : Opened) (disk : View) (es : List Entry) : Type 0 where
  pub answered : (e : Entry) → Contains es e → IsAnsweredSo o.start.book e.event e.reply
  pub alone : IsLeftAlone o.disk disk

-- What is left of a shelf after this history. The disk stands for a book, and a crash at any moment since the opening left what makes
-- one; whatever a crash leaves of it is of the newest format; its count of faults has not fallen. Of a shelf that was opened as an own one
-- this is the book of the history, which is legal. A shelf that follows another one's journal showed no page, and its disk is as it was.
pub record HasEnded (told : Type 0) (o : Opened) (disk : View) (es : List Entry) : Type 0 where
  pub opened : IsOpened o.start.book
  pub stands : told → (b : Book) × Stands setup_of_texts o.number disk b
  pub ever : told → LeavesOnly o.disk disk (MakesSome o)
  pub newest : told → LeavesNewest disk
  pub history : o.IsOwn → StandsForBook told o disk es
  pub followed : o.start.book.follows ≡ true → HasFollowed o disk es
  pub later : o.disk.faults ≤ disk.faults
