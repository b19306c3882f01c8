-- What the run of a page's script comes to, beside the record of the page.
use Rattle.std.specs.Prelude.{◌≡◌, ℕ, List, map, Option, Some, None}
use Rattle.script_value.specs.Val.{Val, list, no_vals}
use Rattle.script_value.specs.declared.outcome.TxName.{TxName}
use Rattle.script_nodes.specs.declared.script.SendKind.{SendKind}
use Rattle.script_nodes.specs.Views.{named_of}
use Rattle.instance_cells.specs.Cells.{reads_of}
use Rattle.instance_cells.specs.Views.{effect_of}
use Rattle.replay_spec.specs.Tape.{present, recorded, shows, paged}
use Rattle.replay_spec.specs.Next.{Visit, comes_to, tape_for}
use Rattle.replay_spec.specs.Recovery.{again}
use Rattle.server_limits.specs.Limits.{most_fuel}
use Rattle.machine_states.specs.Machine.{Suspended}
use Rattle.machine_states.specs.Laws.{IsStateOf}
use Rattle.machine_states.specs.Views.{origin_of, suspended_of}
use Rattle.machine_states.specs.declared.frame.Suspended as stored
use Rattle.machine_states.specs.declared.segment.Outcome.{Outcome}
use Rattle.machine_states.specs.declared.segment.Outcome.TheVariants.{Shown}
use Rattle.machine_states.specs.declared.segment.Segment.{Segment}
use Rattle.journal_records.specs.Fields as fields
use Rattle.journal_records.specs.Views.{effects_in}
use Rattle.journal_records.specs.declared.records.PageRecord.{PageRecord}
use Rattle.instance_book.specs.declared.book.Book.{Book}
use Rattle.instance_book.specs.Swept.{cells_at}
use Rattle.journal_spec.specs.Retaking.{arena_of}
use Rattle.instance_book.specs.Visits.{GoesOnFrom}
use Rattle.book_redo.specs.declared.behind.Behind.{Behind}

-- the kind of the page that waits for an answer, where a segment stopped with one
abbrev pub kind_in : Outcome → Option SendKind
kind_in (Shown bytes kind state) = Some kind
kind_in _ = None

-- the segment shows a page of the record's kind, with its effects, and leaves its transactions
pub record ShowsSo (p : PageRecord) (r : Segment) : Type 0 where
  pub kind : kind_in r.outcome ≡ Some p.kind
  pub effects : map effect_of r.effects.items ≡ effects_in p.effects
  pub left : r.left.items ≡ p.left.items

-- A visit comes to the page of the record over these cells, and leaves this state there.
pub record Leaves (p : PageRecord) (cells : List Val) (v : Visit) (d : Suspended) : Type 0 where
  pub inside : List TxName
  pub comes : again p.kind (effects_in p.effects) p.left.items (comes_to v (present cells most_fuel)) ≡ Some inside
  pub bytes : List ℕ
  pub outcome : (comes_to v (present cells most_fuel)).outcome ≡ paged (shows p.kind) bytes
  pub effects : (comes_to v (present cells most_fuel)).effects ≡ effects_in p.effects
  pub state : IsStateOf (arena_of v.script.script) (tape_for v (recorded (reads_of (effects_in p.effects)))) d

-- the state that a visit leaves where it comes to the page of the record over these cells; none where it does not
abbrev pub LeavesIf : PageRecord → (cells : List Val) → Visit → Option stored.Suspended → Type 0
LeavesIf p cells v None = again p.kind (effects_in p.effects) p.left.items (comes_to v (present cells most_fuel)) ≡ None
LeavesIf p cells v (Some d) = Leaves p cells v (suspended_of d)

-- The visit is one of the record's, of this shelf and instance and with this answer, and goes on from the same.
pub record IsVisitOf (x : Behind) (p : PageRecord) (shelf instance : ℕ) (answer : Val) (v : Visit) : Type 0 where
  pub script : v.script ≡ named_of x.script.now
  pub shelf_is : v.shelf ≡ shelf
  pub instance_is : v.instance ≡ instance
  pub number : v.ticket.number ≡ p.ticket
  pub nonce : v.ticket.nonce ≡ p.nonce
  pub answer_is : v.ticket.answer ≡ answer
  pub from : GoesOnFrom v (origin_of x.from)

-- what each visit that a record may tell of leaves
abbrev pub RunsTo : Behind → PageRecord → (shelf instance : ℕ) → (answer : Val) → (cells : List Val) → Option stored.Suspended → Type 0
RunsTo x p shelf instance answer cells d = (v : Visit) → IsVisitOf x p shelf instance answer v → LeavesIf p cells v d

-- what the visits of a record leave: of a start over the cells that its script begins with, and else over those of the instance
abbrev pub RunsFrom : Behind → Book → PageRecord → fields.Origin → Option stored.Suspended → Type 0
RunsFrom x b p (fields.start k) d = RunsTo x p b.shelf p.ticket (list no_vals) (named_of x.script.now).script.cells d
RunsFrom x b p (fields.answered instance page answer) d =
    (cells : List Val) → cells_at instance b ≡ Some cells → RunsTo x p b.shelf instance answer cells d
