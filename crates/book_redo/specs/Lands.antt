-- Whether the record of a change lands in a book, whatever names its page is inside.
use Rattle.std.specs.Prelude.{◌≡◌, ℕ, Bool, false, true, List, Option, Some, None, is_some, slice_get, if◌then◌else◌, ⊤}
use Rattle.script_value.specs.declared.outcome.TxName.{TxName}
use Rattle.script_nodes.specs.Setup.{Named, Library}
use Rattle.replay_spec.specs.Book.{Change}
use Rattle.replay_spec.specs.Admission.{◌>>=◌}
use Rattle.replay_spec.specs.Recovery.{page_of_numbers, can_go}
use Rattle.journal_records.specs.Records.{Record, changes}
use Rattle.journal_records.specs.declared.records.PageRecord.{PageRecord}
use Rattle.journal_spec.specs.Retaking.{held}
use Rattle.instance_book.specs.declared.book.Book.{Book}
use Rattle.instance_book.specs.Standing.{book_under}
use Rattle.instance_book.specs.Views.{effects_in}
use Rattle.book_redo.specs.Redo.{are_held, opens_so}

-- whether the record of a start of the script of this place can be of a book
abbrev pub StartLands : Library → (script : ℕ) → PageRecord → Bool → Type 0
StartLands library k r t = t ≡ is_some (slice_get library.setup k >>= (λ s. if opens_so s r then Some s else None))

-- whether the record of an answer to this page can be of the book
abbrev pub AnswerLands : Library → Book → (instance page : ℕ) → PageRecord → Bool → Type 0
AnswerLands library b k m r t =
    t ≡ is_some (page_of_numbers (book_under library b) k m
    >>= (λ at. if can_go r.evicted.items at.instance.used then (if are_held (effects_in r) at.instance.cells then Some at else None) else None))

-- whether the record of a change lands whose number was not seen, whatever names its page is inside
abbrev pub IsPageLanding : Library → Book → Change → Bool → Type 0
IsPageLanding library b c t = (inside : List TxName) → t ≡ is_some (held (book_under library b) c inside)

-- whether a record of a change lands, whatever names its page is inside, where its number was seen or was not
abbrev pub TellsLanding : Library → Book → Record → (again : Bool) → Bool → Type 0
TellsLanding library b (changes c state) again t =
    (inside : List TxName) → t ≡ is_some (if again then None else held (book_under library b) c inside)
TellsLanding library b _ again t = ⊤
