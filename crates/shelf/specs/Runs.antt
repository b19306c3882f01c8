-- What the run of a ticket's segment comes to.
use Rattle.std.specs.Prelude.{◌≡◌, ℕ, List, map, length, Some, slice_get}
use Rattle.script_value.specs.Val.{Val}
use Rattle.script_value.specs.Views.{meaning}
use Rattle.script_nodes.specs.Arena.{Arena}
use Rattle.script_nodes.specs.Setup.{Named}
use Rattle.instance_cells.specs.Cells.{AreOn}
use Rattle.instance_cells.specs.Views.{effect_of}
use Rattle.replay_spec.specs.Tape.{present}
use Rattle.replay_spec.specs.Next.{Visit, comes_to}
use Rattle.machine_states.specs.Machine.{inside_of}
use Rattle.machine_states.specs.Fits.{Fits}
use Rattle.machine_states.specs.Views.{segment_of, Keeps}
use Rattle.machine_states.specs.declared.segment.Segment.{Segment}
use Rattle.book_recovery.specs.VisitRuns.SendSuspend.Segments.{newest, IsConsistent, Replays}
use Rattle.book_visits.specs.declared.ticket.Ticket.{Ticket}
use Rattle.book_visits.specs.Views.{ticket_of}
use Rattle.book_recovery.specs.InstanceBook.Places.{arena_of}
use Rattle.book_visits.specs.Fits.{IsFor}
use Rattle.book_visits.specs.Laws.{KeepsStateOver}

-- the segment of the ticket over these cells, which goes on from what the ticket goes on from
pub record IsRunFrom (a : Arena) (fuel : ℕ) (t : Ticket) (cells : List Val) (r : Segment) : Type 0 where
  pub replays : Replays t.from a (newest (meaning t.answer) t.number t.url cells fuel) r
  pub consistent : IsConsistent t.from a cells r
  pub fits : Keeps r.outcome (λ d. Fits a d)

-- the segment is that of the ticket over these cells, under the ticket's script
abbrev pub IsRunOver : List Named → (fuel : ℕ) → Ticket → (cells : List Val) → Segment → Type 0
IsRunOver all fuel t cells r =
    (named : Named) → slice_get all t.script ≡ Some named → IsRunFrom (arena_of named.script) fuel t cells r

-- A segment is what a visit comes to over these cells; a page that it shows has its state kept over the visit's tape, and is inside
-- the transactions of the state's frames; and its effects are on the cells that the script has.
pub record IsRunAs (v : Visit) (cells : List Val) (fuel : ℕ) (r : Segment) : Type 0 where
  pub comes : segment_of r ≡ comes_to v (present cells fuel)
  pub state : KeepsStateOver v r
  pub inside : Keeps r.outcome (λ d. inside_of d.frames ≡ r.entered.items)
  pub on : AreOn (length v.script.script.cells) (map effect_of r.effects.items)

-- the segment is what each visit that the ticket is for comes to over these cells
abbrev pub IsRunOfItsVisit : List Named → (fuel : ℕ) → Ticket → (cells : List Val) → Segment → Type 0
IsRunOfItsVisit all fuel t cells r =
    (v : Visit) → v.ticket ≡ ticket_of t → IsFor all t v → IsRunAs v cells fuel r
