-- The word of the first test that fails of a record.
use Rattle.std.specs.Prelude.{◌≡◌, ℕ, Bool, List, length, Option, Some, None}
use Rattle.script_nodes.specs.Setup.{Library}
use Rattle.replay_spec.specs.Book.{Use, Change, ends, finishes}
use Rattle.replay_spec.specs.Change.{used_by}
use Rattle.replay_spec.specs.Eviction.{least_used}
use Rattle.replay_spec.specs.Admission.{is_one}
use Rattle.journal_records.specs.Records.{Record, changes}
use Rattle.journal_records.specs.Views.{page_change, ending_of, finish_of}
use Rattle.journal_records.specs.declared.records.EndedRecord.{EndedRecord}
use Rattle.journal_records.specs.declared.records.FinishRecord.{FinishRecord}
use Rattle.journal_records.specs.declared.records.PageRecord.{PageRecord}
use Rattle.book_redo.specs.InstanceBook.declared.in_order.InOrder.{InOrder}
use Rattle.book_redo.specs.InstanceBook.declared.book.Book.{Book}
use Rattle.book_redo.specs.InstanceBook.Orders.{numbers_of}
use Rattle.book_redo.specs.InstanceBook.Views.{Beside, book_of}
use Rattle.book_redo.specs.InstanceBook.Standing.{book_under}
use Rattle.book_redo.specs.Redo.{HasToldStates}
use Rattle.book_redo.specs.JournalSpec.Before.{Made}
use Rattle.audit_spec.specs.declared.word.Word.{Word}
use Rattle.audit_spec.specs.Tests.{are_numbers, least_go, tells_own}
use Rattle.audit_spec.specs.Findings.{fault_of}

-- Records made this book, beside some journal. These are the numbers that they told, and each page of the book has the state that they told.
pub record IsMadeOf (library : Library) (seen : InOrder (Unit {0})) (b : Book) (m : Made) : Type 0 where
  pub beside : Beside
  pub book : m.book ≡ book_of library beside b
  pub numbers : (k : ℕ) → is_one k m.earlier.seen ≡ is_one k (numbers_of seen.things.items)
  pub states : HasToldStates library.all m.earlier.states b

-- whatever records made this book, this is the word for a record of this format after them, if it has one
abbrev pub IsFaultIn : (format : ℕ) → Library → InOrder (Unit {0}) → Book → Record → Option Word → Type 0
IsFaultIn format library seen b r word = (m : Made) → IsMadeOf library seen b m → word ≡ fault_of format m (Some r)

-- whatever records made this book, in each format, this is the word for a record after them, if it has one
abbrev pub IsFaultAnyway : Library → InOrder (Unit {0}) → Book → Record → Option Word → Type 0
IsFaultAnyway library seen b r word = (format : ℕ) → IsFaultIn format library seen b r word

-- this is the word for a record after this book, if it has one, under each library and whichever numbers were told
abbrev pub IsFaultAlways : Book → Record → Option Word → Type 0
IsFaultAlways b r word = (library : Library) (seen : InOrder (Unit {0})) → IsFaultAnyway library seen b r word

-- Whatever records made this book, this is the word for the record of a page with this state, if it has one.
abbrev pub IsPageFault : (format : ℕ) → Library → InOrder (Unit {0}) → Book → PageRecord → (state : List ℕ) → Option Word → Type 0
IsPageFault format library seen b page state word = IsFaultIn format library seen b (changes (page_change page) (Some state)) word

-- Whatever records made this book, this is the word for the record of a last page, if it has one.
abbrev pub IsEndedFault : Library → InOrder (Unit {0}) → Book → EndedRecord → Option Word → Type 0
IsEndedFault library seen b ended word = IsFaultAnyway library seen b (changes (ends (ending_of ended)) None) word

-- Whatever records made this book, this is the word for the record of a last page with which the instance went, if it has one.
abbrev pub IsFinishFault : Library → InOrder (Unit {0}) → Book → FinishRecord → Option Word → Type 0
IsFinishFault library seen b finish word = IsFaultAnyway library seen b (changes (finishes (finish_of finish)) None) word

-- this is whether these pages are as many of the least used as they are, once a segment of this number answered one
abbrev pub GoesLeast : (answered number : ℕ) → List Use → (gone : List ℕ) → Bool → Type 0
GoesLeast answered number us gone so = so ≡ are_numbers gone (least_used (length gone) (used_by answered number us))

-- this is whether the pages that a change tells to have gone are the least used, on this book
abbrev pub GoLeast : Library → Book → Change → Bool → Type 0
GoLeast library b c so = so ≡ least_go (book_under library b) c

-- whatever records made this book, this is whether these bytes tell the state that the script of a change leaves
abbrev pub TellsOwn : (format : ℕ) → Library → Book → Change → (state : List ℕ) → Bool → Type 0
TellsOwn format library b c state so =
    (m : Made) (beside : Beside) → m.book ≡ book_of library beside b → HasToldStates library.all m.earlier.states b → so ≡ tells_own format m c (Some state)
