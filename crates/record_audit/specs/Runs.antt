-- What the script of a record comes to, run from its start.
use Rattle.std.specs.Prelude.{◌≡◌, ℕ, Bool, false, List, map, is_some}
use Rattle.script_value.specs.Val.{Val}
use Rattle.script_value.specs.Views.{meaning}
use Rattle.script_value.specs.declared.value.Value.{Value}
use Rattle.script_nodes.specs.declared.script.SendKind.{SendKind}
use Rattle.script_nodes.specs.Arena.{script_of}
use Rattle.script_nodes.specs.Setup.{Library}
use Rattle.script_nodes.specs.Views.{named_of}
use Rattle.replay_spec.specs.Tape.{present, Answer, tape_behind, shows, Outcome, paged}
use Rattle.replay_spec.specs.Eval.{Segment, run}
use Rattle.replay_spec.specs.Book.{Change, chain}
use Rattle.replay_spec.specs.Next as next
use Rattle.replay_spec.specs.Next.{home, answered, now_of}
use Rattle.replay_spec.specs.Recovery.{again, is_kind}
use Rattle.segments.specs.Views.{answer_of, segment_of}
use Rattle.segments.specs.declared.ends.RunResult.{RunResult}
use Rattle.segments.specs.declared.tape.Answer as tape
use Rattle.server_limits.specs.Limits.{most_fuel}
use Rattle.journal_records.specs.Fields as fields
use Rattle.journal_records.specs.Views.{effects_in, origin_of, page_change}
use Rattle.journal_records.specs.declared.records.PageRecord.{PageRecord}
use Rattle.book_redo.specs.InstanceBook.declared.in_order.InOrder.{InOrder}
use Rattle.book_redo.specs.InstanceBook.declared.numbered.Numbered.{Numbered}
use Rattle.book_redo.specs.InstanceBook.declared.page.KeptPage.{KeptPage}
use Rattle.book_redo.specs.InstanceBook.declared.place.Place.{Place}
use Rattle.book_redo.specs.InstanceBook.declared.book.Book.{Book}
use Rattle.book_redo.specs.InstanceBook.Views.{page_of, pages_of}
use Rattle.book_redo.specs.InstanceBook.Standing.{book_under}
use Rattle.audit_spec.specs.Tests.{runs_so}
use Rattle.record_audit.specs.declared.home.Home.{Home}

-- what the URLs of an instance's pages share
abbrev pub home_of : Home → next.Home
home_of h = home (named_of h.script.now) h.shelf h.instance

-- The newest segment of a tape: it has this number and nonce, and stands after this answer and over these cells, with the most fuel that a
-- shelf may have.
abbrev pub newest_of : next.Home → (answer : Val) → (number nonce : ℕ) → (cells : List Val) → Answer
newest_of h answer number nonce cells = record { value = answer; segment = now_of h number nonce (present cells most_fuel) }

-- The segments that showed these pages of an instance from the first one to this one.
abbrev pub segments_to : Home → InOrder KeptPage → Numbered KeptPage → List Answer
segments_to h pages page = map (answered (home_of h)) (chain (pages_of pages) (page_of page))

-- what a script comes to after segments that ran, in a newest one that has this number and nonce and is over these cells
abbrev pub comes_behind : Home → (past : List Answer) → (answer : Val) → (number nonce : ℕ) → (cells : List Val) → Segment
comes_behind h past answer number nonce cells =
    run (script_of h.script.now.script) (tape_behind past (newest_of (home_of h) answer number nonce cells))

-- This is what a script comes to so, as the program's values say it.
abbrev pub ComesBehind : Home → (past : List tape.Answer) → (answer : Value) → (number nonce : ℕ) → (cells : List Val) → RunResult → Type 0
ComesBehind h past answer number nonce cells ran =
    segment_of ran ≡ comes_behind h (map answer_of past) (meaning answer) number nonce cells

-- what the segments of a place's instance share, on this shelf
abbrev pub home_at : (shelf : ℕ) → Place → Home
home_at shelf p = record { script = p.script; shelf = shelf; instance = p.instance.now.number }

-- the segments that showed the pages from the first one of a place's instance to the place's page
abbrev pub past_at : (shelf : ℕ) → Place → List Answer
past_at shelf p = segments_to (home_at shelf p) p.instance.now.item.pages p.page.now

-- what an answer to a place's page comes to over the present cells of its instance
abbrev pub comes_at : (shelf : ℕ) → Place → (answer : Val) → (number nonce : ℕ) → Segment
comes_at shelf p answer number nonce = comes_behind (home_at shelf p) (past_at shelf p) answer number nonce p.instance.now.item.cells

-- whether a run stops with a page of this kind that waits for an answer
abbrev pub is_shown : SendKind → Outcome → Bool
is_shown kind (paged (shows k) bytes) = is_kind k kind
is_shown kind _ = false

-- Whether a segment shows the page of a record again: one of its kind, with its effects and the transactions that it leaves.
abbrev pub shows_again : PageRecord → Segment → Bool
shows_again p ran = is_some (again p.kind (effects_in p.effects) p.left.items ran)

-- this is whether the script of a change, run on this book, stops as the change tells
abbrev pub RunsSo : Library → Book → Change → Bool → Type 0
RunsSo library b c so = so ≡ runs_so (book_under library b) c

-- where the record's page is of a start of the script of this place, this is whether the script stops as the record tells
abbrev pub StartRunsSo : Library → Book → (script : ℕ) → PageRecord → Bool → Type 0
StartRunsSo library b k p so = origin_of p.origin ≡ fields.start k → RunsSo library b (page_change p) so

-- where the record's page is of this answer to this page, this is whether the script stops as the record tells
abbrev pub AnswerRunsSo : Library → Book → (instance page : ℕ) → (answer : Val) → PageRecord → Bool → Type 0
AnswerRunsSo library b k n answer p so = origin_of p.origin ≡ fields.answered k n answer → RunsSo library b (page_change p) so

-- Where the record's page is of this answer to this page, as the program's value says it, this is whether the script stops as the record
-- tells.
abbrev pub AnsweredSo : Library → Book → (instance page : ℕ) → (answer : Value) → PageRecord → Bool → Type 0
AnsweredSo library b k n answer p so = AnswerRunsSo library b k n (meaning answer) p so
