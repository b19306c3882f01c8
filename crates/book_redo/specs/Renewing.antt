-- What a record of an older format is in the newest.
use Rattle.std.specs.Prelude.{◌≡◌, ℕ, List, [], Option, Some, None, ⊤}
use Rattle.script_nodes.specs.Setup.{Library}
use Rattle.replay_spec.specs.Book.{Change}
use Rattle.replay_spec.specs.Recovery.{number_in}
use Rattle.journal_records.specs.Records.{Record, begins, changes, renews, draws, follows, promotes, IsInGrammar}
use Rattle.journal_records.specs.Views.{logged_of, page_change}
use Rattle.journal_records.specs.declared.records.PageRecord.{PageRecord}
use Rattle.instance_book.specs.declared.book.Book.{Book}
use Rattle.instance_book.specs.Views.{Beside, book_of}
use Rattle.book_redo.specs.Redo.{HasToldStates}
use Rattle.journal_spec.specs.Before.{Made}
use Rattle.journal_spec.specs.Retaking.{unread, told_in, retaken}
use Rattle.journal_spec.specs.Making.{made, damaged, told_next}
use Rattle.journal_spec.specs.Old.{told_of, change_next}
use Rattle.journal_spec.specs.Copying.{state_now}
use Rattle.book_redo.specs.declared.renew.Renewed.{Renewed}
use Rattle.book_redo.specs.declared.renew.Renewed.TheVariants.{Told, Passed, Misread}

-- a fact of any records that made this book and told its pages' states, wherever the next gate is and however long the next
-- record
abbrev pub OfEach : Library → Book → ((place n : ℕ) → Made → Type 0) → Type 0
OfEach library b P =
    (m : Made) (beside : Beside) (place n : ℕ) → m.book ≡ book_of library beside b → HasToldStates library.all m.earlier.states b → P place n m

-- The record of a change tells in this format what one with these bytes of its page's state tells in the newest, and makes the same. These are
-- the bytes that the newest format has of it.
pub record IsAsNewest (format : ℕ) (library : Library) (b : Book) (c : Change) (state now : Option (List ℕ)) : Type 0 where
  pub tells : OfEach library b (λ place n m. told_of format m c state ≡ told_in m.earlier m.book c now)
  pub makes : OfEach library b (λ place n m. change_next format place n m c state ≡ told_next place n m c (told_in m.earlier m.book c now))
  pub bytes : OfEach library b (λ place n m. now ≡ state_now format m c state)

-- the record of a change is passed over in this format
abbrev pub IsPassedOver : (format : ℕ) → Library → Book → Change → (state : Option (List ℕ)) → Type 0
IsPassedOver format library b c state = OfEach library b (λ place n m. change_next format place n m c state ≡ made (retaken n c None unread m))

-- the record of a change is outside this format's grammar
abbrev pub IsOutside : (format : ℕ) → Library → Book → Change → (state : Option (List ℕ)) → Type 0
IsOutside format library b c state = OfEach library b (λ place n m. change_next format place n m c state ≡ damaged place)

-- what is told is the record of a change in the newest format; one that is passed over has a number, and is so, as is one outside the grammar
abbrev pub IsChangeRenewed : (format : ℕ) → Library → Book → Change → (state : Option (List ℕ)) → Renewed → Type 0
IsChangeRenewed format library b c state (Told l) =
    (now : Option (List ℕ)) × ((logged_of l ≡ changes c now) × IsAsNewest format library b c state now)
IsChangeRenewed format library b c state Passed = ((n : ℕ) × (number_in c ≡ Some n)) × IsPassedOver format library b c state
IsChangeRenewed format library b c state Misread = IsOutside format library b c state

-- What is told is the record of a change in the newest format, where it was read in format 1, whatever bytes of a state it might
-- have, since that format tells none.
abbrev pub IsMadeAgain : Library → Book → Change → Renewed → Type 0
IsMadeAgain library b c x = (state : Option (List ℕ)) → IsChangeRenewed 1 library b c state x

-- the record of this page is told, with these bytes of its state
abbrev pub IsPageTold : PageRecord → (state : List ℕ) → Renewed → Type 0
IsPageTold p state (Told l) = logged_of l ≡ changes (page_change p) (Some state)
IsPageTold p state Passed = ⊥
IsPageTold p state Misread = ⊥

-- this record is told as it is
abbrev pub IsToldAsIs : Record → Renewed → Type 0
IsToldAsIs r (Told l) = logged_of l ≡ r
IsToldAsIs r Passed = ⊥
IsToldAsIs r Misread = ⊥

-- what a record of this format is in the newest: that of a change as its format has it, and any other one as it is
abbrev pub IsRenewed : (format : ℕ) → Library → Book → Record → Renewed → Type 0
IsRenewed format library b (begins shelf named) x = IsToldAsIs (begins shelf named) x
IsRenewed format library b (changes c state) x = IsChangeRenewed format library b c state x
IsRenewed format library b (renews named) x = IsToldAsIs (renews named) x
IsRenewed format library b (draws number) x = IsToldAsIs (draws number) x
IsRenewed format library b follows x = IsToldAsIs follows x
IsRenewed format library b promotes x = IsToldAsIs promotes x

-- the record of this page can be written, with no bytes of its state
abbrev pub FitsWithout : PageRecord → Type 0
FitsWithout p = IsInGrammar (changes (page_change p) (Some []))

-- what is told can be written
abbrev pub FitsAgain : Renewed → Type 0
FitsAgain (Told l) = IsInGrammar (logged_of l)
FitsAgain Passed = ⊤
FitsAgain Misread = ⊤
