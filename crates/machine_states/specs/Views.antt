-- What the program's values stand for: what is kept of a script at a page, and what a segment came to.
use Rattle.std.specs.Prelude.{List, map, reverse, Option, Some, None, ⊤}
use Rattle.instance_cells.specs.Views.{effect_of}
use Rattle.replay_spec.specs.Tape as spec
use Rattle.replay_spec.specs.Eval as eval
use Rattle.machine_states.specs.Machine as machine
use Rattle.machine_states.specs.declared.frame.Frame.{Frame}
use Rattle.machine_states.specs.declared.frame.Frame.TheVariants as frame
use Rattle.machine_states.specs.declared.frame.Suspended.{Suspended}
use Rattle.machine_states.specs.declared.segment.Origin.{Origin}
use Rattle.machine_states.specs.declared.segment.Origin.TheVariants.{Start, Page}
use Rattle.machine_states.specs.declared.segment.Outcome.{Outcome}
use Rattle.machine_states.specs.declared.segment.Outcome.TheVariants.{Shown, Finished, Ended, Faulted, Fuel}
use Rattle.machine_states.specs.declared.segment.Segment.{Segment}

-- what a script has still to do, as the program's frame says it
abbrev pub frame_of : Frame → machine.Frame
frame_of (frame.Binding n done) = machine.in_binding n done
frame_of (frame.Operand n done) = machine.in_operand n done
frame_of (frame.Body n bound) = machine.in_body n bound
frame_of (frame.Seq n k) = machine.in_seq n k
frame_of (frame.And n k) = machine.in_and n k
frame_of (frame.Or n k) = machine.in_or n k
frame_of (frame.If n k) = machine.in_if n k
frame_of (frame.Count n) = machine.in_count n
frame_of (frame.Store n) = machine.in_store n
frame_of (frame.Turn n turns done) = machine.in_turn n turns done
frame_of (frame.Isolate n name) = machine.in_isolate n name
frame_of (frame.Call n done) = machine.in_call n done
frame_of (frame.Task n k outer) = machine.in_task n k outer
frame_of (frame.Page n kind) = machine.in_page n kind
frame_of (frame.Finish n) = machine.in_finish n
frame_of (frame.Back n) = machine.in_back n

-- the frames of a state, the innermost first
abbrev pub stack : List Frame → List machine.Frame
stack fs = reverse (map frame_of fs)

-- what is kept of a script at a page, as the program's state says it
abbrev pub suspended_of : Suspended → machine.Suspended
suspended_of d = record { env = d.env; frames = stack d.frames.items; shadows = d.shades }

-- what a segment goes on from; none for a start
abbrev pub origin_of : Origin → Option machine.Suspended
origin_of Start = None
origin_of (Page d) = Some (suspended_of d)

-- how a segment stopped, without the state that is kept of it
abbrev pub outcome_of : Outcome → spec.Outcome
outcome_of (Shown page kind state) = spec.paged (spec.shows kind) page
outcome_of (Finished page) = spec.paged spec.finishes page
outcome_of (Ended page) = spec.paged spec.ends page
outcome_of (Faulted k) = spec.faulted k
outcome_of (Fuel cost) = spec.out_of_fuel cost

-- the state that is kept where a segment ended with a page that waits for an answer
abbrev pub state_of : Outcome → Option machine.Suspended
state_of (Shown page kind state) = Some (suspended_of state)
state_of _ = None

-- this holds of the state that is kept where a segment ended with a page that waits for an answer
abbrev pub Keeps : Outcome → (machine.Suspended → Type 0) → Type 0
Keeps (Shown page kind state) P = P (suspended_of state)
Keeps _ P = ⊤

-- how a segment stopped, and what it did
abbrev pub segment_of : Segment → eval.Segment
segment_of r = record {
  outcome = outcome_of r.outcome;
  entered = r.entered.items;
  effects = map effect_of r.effects.items;
  left = r.left.items;
  cost = r.cost;
}
