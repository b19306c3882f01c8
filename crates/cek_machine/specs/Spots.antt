-- What the machine of the program stands for in the definitions.
use Rattle.std.specs.Prelude.{◌≡◌, ℕ, ◌<◌, ◌-◌, List, [], ◌∷◌, length, Option, Some, None, Result, Ok, Err, ⊤}
use Rattle.script_value.specs.Val.{Val}
use Rattle.script_value.specs.Views.{meaning}
use Rattle.script_value.specs.declared.value.Value.{Value}
use Rattle.script_value.specs.declared.outcome.TxName.{TxName}
use Rattle.script_nodes.specs.declared.script.Node.{Node}
use Rattle.script_nodes.specs.declared.script.SendKind.{SendKind}
use Rattle.script_nodes.specs.Arena.{Arena}
use Rattle.segment_progress.specs.declared.halt.Halt.{Halt}
use Rattle.segment_progress.specs.declared.halt.Halt.TheVariants.{Memory, Stopped}
use Rattle.segments.specs.Views.{outcome_of}
use Rattle.segment_progress.specs.States as plain
use Rattle.segment_progress.specs.States.{state_of}
use Rattle.segments.specs.ReplaySpec.Tape.{State, paged, faulted, out_of_fuel, End, got, stop, Run, ◌>>◌, charge, send_page, add_cell}
use Rattle.segments.specs.ReplaySpec.Eval.{copied}
use Rattle.machine_states.specs.declared.frame.Frame.{Frame}
use Rattle.machine_states.specs.declared.frame.Frame.TheVariants as frame
use Rattle.cek_machine.specs.declared.control.Control.{Control}
use Rattle.cek_machine.specs.declared.control.Control.TheVariants.{Visit, Give}
use Rattle.cek_machine.specs.declared.spot.Spot.{Spot}
use Rattle.machine_states.specs.Views.{frame_of, stack}
use Rattle.machine_states.specs.Machine as spec
use Rattle.machine_states.specs.Machine.{inside_of, visits, given, visited, next_part, next_turn, taken, next, cut, outer_env, outer_frames}

-- what a machine does next, as the program's value says it: a node is visited, or a value given
abbrev pub control_of : Control → spec.Control
control_of (Visit n) = spec.visit n
control_of (Give v) = spec.value (meaning v)

-- the frames of a machine, the innermost first
abbrev pub frames_of : Spot → List spec.Frame
frames_of s = stack s.frames.items

-- the point where a machine is: what it does next, its variables and its frames
abbrev pub point : Control → Spot → spec.Point
point c s = record { control = control_of c; env = s.env; frames = frames_of s }

-- the transactions that are open are those of the frames
abbrev pub Sound : Spot → Type 0
Sound s = plain.inside_of s.progress ≡ inside_of (frames_of s)

-- a further effect is noted
abbrev pub NotesMore : (old new : State) → Type 0
NotesMore old new = length old.effects < length new.effects

-- a move takes memory: it goes on, or it stops with a page or after a further effect
abbrev pub TakesMemory : State → End spec.Point → Type 0
TakesMemory old (got p new) = ⊤
TakesMemory old (stop (paged how bytes) entered new) = ⊤
TakesMemory old (stop (faulted k) entered new) = NotesMore old new
TakesMemory old (stop (out_of_fuel cost) entered new) = NotesMore old new

-- Memory is taken where a frame takes the value of its part: always by an operand's frame, by that of an operand of a call and by a
-- turn's, which keep the value with those that are done; by any other where its move takes memory.
abbrev pub FrameTakesMemory : spec.Frame → State → End spec.Point → Type 0
FrameTakesMemory (spec.in_operand n done) old e = ⊤
FrameTakesMemory (spec.in_call n done) old e = ⊤
FrameTakesMemory (spec.in_turn n turns done) old e = ⊤
FrameTakesMemory f old e = TakesMemory old e

-- memory is taken where this control is next: by the innermost frame, if there is one that gets a value, or by the move
abbrev pub ControlTakesMemory : spec.Control → List spec.Frame → State → End spec.Point → Type 0
ControlTakesMemory (spec.value v) (f ∷ fs) old e = FrameTakesMemory f old e
ControlTakesMemory c fs old e = TakesMemory old e

-- a script without a node
abbrev pub no_arena : Arena
no_arena = record { nodes = []; tasks = []; web = []; cells = [] }

-- a move came to the control that is next, or to its stop with these variables and frames; memory ran out at most where it is taken
abbrev pub ComesOut : (memory : Type 0) → Result Control Halt → List Val → List spec.Frame → (new : Spot) → End spec.Point → Type 0
ComesOut memory (Ok c) env fs new e = e ≡ got (point c new) (state_of new.progress)
ComesOut memory (Err Memory) env fs new e = memory
ComesOut memory (Err (Stopped o)) env fs new e =
    (e ≡ stop (outcome_of o) (inside_of fs) (state_of new.progress)) × ((new.env ≡ env) × (frames_of new ≡ fs))

-- a call moved the spot to where this run ends; memory ran out at most where that takes some
abbrev pub Comes : Result Control Halt → (old new : Spot) → End spec.Point → Type 0
Comes r old new e = ComesOut (TakesMemory (state_of old.progress) e) r old.env (frames_of old) new e

-- a call moved the spot as this action does
abbrev pub Moves : Result Control Halt → (old new : Spot) → (List Val → List spec.Frame → Run spec.Point) → Type 0
Moves r old new act = Comes r old new (act old.env (frames_of old) (state_of old.progress))

-- a call moved the spot to the value of this action, done inside the transactions that are open
abbrev pub Gives : Result Control Halt → (old new : Spot) → (List TxName → Run Val) → Type 0
Gives r old new act = Moves r old new (λ env fs. given (act (inside_of fs)) env fs)

-- a call moved the spot to a copy of this value
abbrev pub GivesCopy : Result Control Halt → (old new : Spot) → Val → Type 0
GivesCopy r old new v = Gives r old new (λ inside. copied inside v)

-- a call moved the spot to the answer to this page
abbrev pub Sends : Result Control Halt → (old new : Spot) → SendKind → (page : Val) → Type 0
Sends r old new kind page = Gives r old new (λ inside. send_page inside kind page)

-- a call moved the spot to what an add of this value gives
abbrev pub Adds : Result Control Halt → (old new : Spot) → (cell : ℕ) → Val → Type 0
Adds r old new c v = Gives r old new (λ inside. add_cell inside c v)

-- a call moved the spot to a part, in this frame
abbrev pub WorksOn : Result Control Halt → (old new : Spot) → Frame → (part : ℕ) → Type 0
WorksOn r old new f p = Moves r old new (λ env fs. visits p env (frame_of f ∷ fs))

-- a call moved the spot to the first of the parts that are left, in this frame, or to the value of the last
abbrev pub WorksOnNext : Result Control Halt → (old new : Spot) → Frame → (left : List ℕ) → Val → Type 0
WorksOnNext r old new f left v = Moves r old new (next_part (frame_of f) left v)

-- a call moved the spot to the turn after those that are done, or to the list of their values
abbrev pub TurnsOn : Result Control Halt → (old new : Spot) → (node turns body : ℕ) → (done : List Val) → Type 0
TurnsOn r old new n turns b done = Moves r old new (next_turn n turns b (turns - length done) done)

-- a call visited this node of a script
abbrev pub VisitsIn : Result Control Halt → (old new : Spot) → Arena → (number : ℕ) → Node → Type 0
VisitsIn r old new a n x = Moves r old new (visited a n x)

-- a call visited this node, which calls no task: whatever the script
abbrev pub Visits : Result Control Halt → (old new : Spot) → (number : ℕ) → Node → Type 0
Visits r old new n x = VisitsIn r old new no_arena n x

-- this frame took the value of its part
abbrev pub TakesFor : Frame → Result Control Halt → (old new : Spot) → End spec.Point → Type 0
TakesFor f r old new e = ComesOut (FrameTakesMemory (frame_of f) (state_of old.progress) e) r old.env (frames_of old) new e

-- this frame of a script took this value as that of its part
abbrev pub Takes : Result Control Halt → (old new : Spot) → Arena → Frame → Value → Type 0
Takes r old new a f v = TakesFor f r old new (taken a (frame_of f) (meaning v) old.env (frames_of old) (state_of old.progress))

-- a turn's frame took the value of its part
abbrev pub TakesTurn : Result Control Halt → (old new : Spot) → Arena → (node turns : ℕ) → (done : List Val) → Value → Type 0
TakesTurn r old new a n turns done v = Takes r old new a (frame.Turn n turns done) v

-- a step from this control on came to this end
abbrev pub ControlComes : spec.Control → Result Control Halt → (old new : Spot) → End spec.Point → Type 0
ControlComes c r old new e =
    ComesOut (ControlTakesMemory c (frames_of old) (state_of old.progress) e) r (outer_env c old.env (frames_of old)) (outer_frames c (frames_of old)) new e

-- the step of a script from this control on was made
abbrev pub Nexts : Result Control Halt → (old new : Spot) → Arena → Control → Type 0
Nexts r old new a c = ControlComes (control_of c) r old new (next a (control_of c) old.env (frames_of old) (state_of old.progress))

-- a frame that enters no transaction
abbrev pub IsFlat : Frame → Type 0
IsFlat f = (fs : List spec.Frame) → inside_of (frame_of f ∷ fs) ≡ inside_of fs

-- the transactions that are open are those of the frames with this one, which was popped, as the innermost
abbrev pub SoundUnder : Frame → Spot → Type 0
SoundUnder f s = plain.inside_of s.progress ≡ inside_of (frame_of f ∷ frames_of s)

-- a visit that is charged, and then a part in this frame
abbrev pub paid_visit : ℕ → spec.Frame → List Val → List spec.Frame → Run spec.Point
paid_visit p f env fs = charge (inside_of fs) 1 >> visits p env (f ∷ fs)

-- the variables of a frame's part go; after the body of a task those of the caller come back elsewhere, and nothing is said
abbrev pub Cuts : spec.Frame → (old new : List Val) → Type 0
Cuts (spec.in_task n k outer) old new = ⊤
Cuts f old new = new ≡ cut f old

-- the innermost frame is popped, where there is one
abbrev pub Pops : Option Frame → (old new : List spec.Frame) → Type 0
Pops None old new = (old ≡ []) × (new ≡ [])
Pops (Some f) old new = old ≡ frame_of f ∷ new
