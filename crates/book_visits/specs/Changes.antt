-- What is decided by what is prepared, and what it makes of the book.
use Rattle.std.specs.Prelude.{ℕ, max, List, [], Option, Some, None, ⊤}
use Rattle.script_nodes.specs.Setup.{Named, Library}
use Rattle.replay_spec.specs.Book as spec
use Rattle.replay_spec.specs.Step as step
use Rattle.replay_spec.specs.Step.{Decision, replies, records}
use Rattle.journal_records.specs.Records.{TimeFits}
use Rattle.journal_records.specs.Views.{page_of}
use Rattle.machine_states.specs.Views.{suspended_of}
use Rattle.instance_book.specs.FrameCodec.Spelling.{StateHasBytes}
use Rattle.instance_book.specs.declared.change.Extension.{Extension}
use Rattle.instance_book.specs.declared.change.Change.{Change}
use Rattle.instance_book.specs.declared.change.Change.TheVariants.{Opens, Extends}
use Rattle.book_visits.specs.declared.prepared.Prepared.{Prepared}
use Rattle.book_visits.specs.Views.{reply_of}
use Rattle.instance_book.specs.Places.{own}
use Rattle.instance_book.specs.Changes.{HasStateFrom, change_of, changed_by, inside_of}

-- the decision of this reply and of this change, if there is one
abbrev pub decision_by : step.Reply → Option Change → Decision
decision_by r None = replies r
decision_by r (Some c) = records r (change_of c) (inside_of c)

-- the decision that is prepared
abbrev pub decision_of : Prepared → Decision
decision_of p = decision_by (reply_of p.reply) p.change

-- the book after all that is prepared: the change, if there is one, and what is logged
abbrev pub put_into : Library → Prepared → spec.Book → spec.Book
put_into library p b =
    record (changed_by library p.change b) { logged = max b.logged p.logged }

-- the time until which the page that a change shows, if any, can be answered can be written
abbrev pub HasDeadlineIn : Change → Type 0
HasDeadlineIn (Opens o) = TimeFits (page_of o.record [])
HasDeadlineIn (Extends x) = TimeFits (page_of x.record [])
HasDeadlineIn _ = ⊤

-- the deadline of the page that a change shows, if there is a change with one, can be told
abbrev pub HasDeadlineBy : Option Change → Type 0
HasDeadlineBy None = ⊤
HasDeadlineBy (Some c) = HasDeadlineIn c

-- a fact of the extension that a change is, if it is one
abbrev pub IfExtends : Option Change → (Extension → Type 0) → Type 0
IfExtends (Some (Extends x)) P = P x
IfExtends _ P = ⊤

-- the page that a change shows, if any, has the state of its chain
abbrev pub HasStateBy : List Named → (shelf : ℕ) → List spec.Instance → Option Change → Type 0
HasStateBy all shelf is c = HasStateFrom all (own shelf) is c

-- the state of a change's new page has a spelling
abbrev pub IsSpelledIn : Change → Type 0
IsSpelledIn (Opens o) = StateHasBytes (suspended_of o.state)
IsSpelledIn (Extends x) = StateHasBytes (suspended_of x.state)
IsSpelledIn _ = ⊤

-- the state of a change's new page, if there is a change, has a spelling
abbrev pub IsSpelledBy : Option Change → Type 0
IsSpelledBy None = ⊤
IsSpelledBy (Some c) = IsSpelledIn c
