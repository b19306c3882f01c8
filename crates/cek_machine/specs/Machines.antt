-- The machine of the program, and a step of it.
use Rattle.std.specs.Prelude.{◌≡◌, ℕ, ◌+◌, ◌-◌, ◌*◌, ◌^◌, ◌<◌, List, [], Option, Some, None, unwrap_or, Result, IfOk}
use Rattle.std.specs.declared.alloc.AllocError.{AllocError}
use Rattle.script_value.specs.declared.value.Value.{Value}
use Rattle.script_value.specs.declared.outcome.TxName.{TxName}
use Rattle.script_value.specs.Views.{meaning}
use Rattle.machine_states.specs.declared.frame.Suspended.{Suspended}
use Rattle.machine_states.specs.Views.{suspended_of}
use Rattle.segments.specs.declared.ends.RunEnd.{RunEnd}
use Rattle.segments.specs.Views.{outcome_of}
use Rattle.segment_progress.specs.States.{state_of, inside_of as open_of}
use Rattle.script_nodes.specs.Arena.{Arena, IsScript}
use Rattle.segments.specs.ReplaySpec.Tape.{State, Now, Reads, bound}
use Rattle.machine_states.specs.Laws.{started, resumed}
use Rattle.machine_states.specs.Machine as spec
use Rattle.machine_states.specs.Machine.{inside_of, goes, stopped, next, step, steps}
use Rattle.cek_machine.specs.declared.machine.Machine.{Machine}
use Rattle.machine_states.specs.Fits.{FitsAt}
use Rattle.machine_states.specs.Dues.{InSegment, owed}
use Rattle.cek_machine.specs.Spots.{point, frames_of, control_of, ControlTakesMemory, Sound}

-- how far a machine has used its tape
abbrev pub state_in : Machine → State
state_in m = state_of m.spot.progress

-- the transactions that are open in a machine, the outermost first
abbrev pub open_in : Machine → List TxName
open_in m = open_of m.spot.progress

-- the machine that the program's machine stands for
abbrev pub machine_of : Machine → spec.Machine
machine_of m = record { point = point m.control m.spot; state = state_of m.spot.progress }

-- a machine fits its script, and the transactions that are open are those of its frames
abbrev pub IsReady : Machine → Type 0
IsReady m = Sound m.spot × (IsScript m.script.now × FitsAt m.script.now (control_of m.control) m.spot.env (frames_of m.spot))

-- the segment of a machine runs over present cells, with no answer left, and within its fuel
abbrev pub IsWithin : Machine → Type 0
IsWithin m = (fuel : ℕ) × ((fuel < 2 ^ 63) × InSegment fuel (state_of m.spot.progress))

-- the fuel that bounds a segment
abbrev pub most_cost : Reads → ℕ
most_cost reads = unwrap_or (bound reads) 0

-- the most steps that a machine has left
abbrev pub steps_left : spec.Machine → ℕ
steps_left m = owed m.point + 2 * (most_cost m.state.segment.reads - m.state.cost)

-- what is kept of a machine
abbrev pub kept_of : Machine → spec.Suspended
kept_of m = record { env = m.spot.env; frames = frames_of m.spot; shadows = (state_of m.spot.progress).shadows }

-- a step of a machine went on, or stopped so
abbrev pub Steps : Option RunEnd → (a : Arena) → (old new : Machine) → Type 0
Steps None a old new = step a (machine_of old) ≡ goes (machine_of new)
Steps (Some end) a old new = step a (machine_of old) ≡ stopped (outcome_of end) (inside_of (frames_of new.spot)) (kept_of new) (state_of new.spot.progress)

-- a machine at the start of a segment
abbrev pub start_of : Arena → Now → spec.Machine
start_of a now = started a (record { first = now; later = [] })

-- a machine at the start of a script and of this segment, or no memory
abbrev pub Starts : Result Machine AllocError → Arena → Now → Type 0
Starts r a now = IfOk r (λ m. machine_of m ≡ start_of a now)

-- a machine that goes on from what was kept, with this answer, in this segment
abbrev pub Resumes : Result Machine AllocError → Arena → Suspended → Value → Now → Type 0
Resumes r a kept v now = IfOk r (λ m. machine_of m ≡ resumed a (suspended_of kept) (record { value = meaning v; segment = now }))

-- the next step of a machine takes memory
abbrev pub StepTakesMemory : Arena → spec.Machine → Type 0
StepTakesMemory a m = ControlTakesMemory m.point.control m.point.frames m.state (next a m.point.control m.point.env m.point.frames m.state)

-- after some steps of a machine that went on the next one takes memory
abbrev pub RunTakesMemory : Arena → spec.Machine → Type 0
RunTakesMemory a m = (k : ℕ) × ((mid : spec.Machine) × ((steps a k m ≡ goes mid) × StepTakesMemory a mid))

-- a machine took the steps from the one count to the other, and the last of them is this stop
abbrev pub RunsOver : Arena → RunEnd → (old new : Machine) → (before count : ℕ) → Type 0
RunsOver a end old new before count =
    (k : ℕ) × ((count ≡ before + k + 1) × ((mid : spec.Machine) × ((steps a k (machine_of old) ≡ goes mid)
    × (step a mid ≡ stopped (outcome_of end) (inside_of (frames_of new.spot)) (kept_of new) (state_of new.spot.progress)))))

-- a machine ran to this stop, in the steps of its script from the one count to the other
abbrev pub Runs : RunEnd → (old new : Machine) → (before count : ℕ) → Type 0
Runs end old new before count = RunsOver old.script.now end old new before count
