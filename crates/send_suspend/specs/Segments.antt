-- What a segment that goes on from a stored state comes to.
use Rattle.std.specs.Prelude.{◌≡◌, ◌<◌, ℕ, List, [], length, map, ⊤}
use Rattle.std.specs.List.{AllByRecursion}
use Rattle.script_value.specs.Val.{Val}
use Rattle.script_value.specs.Views.{meaning}
use Rattle.script_value.specs.declared.value.Value.{Value}
use Rattle.script_nodes.specs.Arena.{Arena, script_of}
use Rattle.web_cells.specs.Shadows.{Rise}
use Rattle.web_cells.specs.Own.{BindsAllOf}
use Rattle.instance_cells.specs.Cells.{AreOn, Holds, reads_of}
use Rattle.instance_cells.specs.Views.{effect_of}
use Rattle.segments.specs.declared.ends.RunEnd.{RunEnd}
use Rattle.segments.specs.declared.tape.Now.{Now}
use Rattle.segments.specs.Views as plain
use Rattle.segments.specs.ReplaySpec.Tape.{Answer, Reads, recorded, present, Tape}
use Rattle.segments.specs.ReplaySpec.Eval as eval
use Rattle.segments.specs.ReplaySpec.Laws.{reading, longer}
use Rattle.machine_states.specs.Machine as machine
use Rattle.machine_states.specs.Machine.{inside_of}
use Rattle.machine_states.specs.Fits.{Fits}
use Rattle.machine_states.specs.Laws.{started, resumed, alone, IsStateOf}
use Rattle.machine_states.specs.declared.frame.Suspended.{Suspended}
use Rattle.machine_states.specs.Views.{suspended_of, outcome_of, Keeps, segment_of}
use Rattle.machine_states.specs.declared.segment.Origin.{Origin}
use Rattle.machine_states.specs.declared.segment.Origin.TheVariants.{Start, Page}
use Rattle.machine_states.specs.declared.segment.Outcome.{Outcome}
use Rattle.machine_states.specs.declared.segment.Segment.{Segment}

-- the stop of a machine, with this state where it waits for an answer
abbrev pub Ends : Outcome → RunEnd → Suspended → Type 0
Ends o end state = (outcome_of o ≡ plain.outcome_of end) × Keeps o (λ d. d ≡ suspended_of state)

-- an answer, and the segment over present cells that runs after it
abbrev pub newest : (value : Val) → (number : ℕ) → (url : List ℕ) → (cells : List Val) → (fuel : ℕ) → Answer
newest value number url cells fuel = record { value = value; segment = record { number = number; url = url; reads = present cells fuel } }

-- the state that a segment goes on from, where it begins at a page, fits the script
abbrev pub FitsFrom : Arena → Origin → Type 0
FitsFrom a Start = ⊤
FitsFrom a (Page d) = Fits a (suspended_of d)

-- how many frames a segment goes on with: none from a start, and those of a page's state
abbrev pub frames_in : Origin → ℕ
frames_in Start = 0
frames_in (Page d) = length d.frames.items

-- the machine that begins at an origin
abbrev pub begun : Origin → Arena → Answer → machine.Machine
begun Start a x = started a (alone x.segment x.segment.reads)
begun (Page d) a x = resumed a (suspended_of d) x

-- the bindings of web cells that a segment begins with
abbrev pub bindings_in : Origin → List (ℕ × Val)
bindings_in Start = []
bindings_in (Page d) = d.shades

-- the bindings name web cells of the script, the cells rising, each once
pub record AreBindings (a : Arena) (bindings : List (ℕ × Val)) : Type 0 where
  pub rise : Rise bindings
  pub named : AllByRecursion (λ s. s.0 < length a.web) bindings

-- What holds of a segment whatever state it goes on from, of a tape or of none: its effects are on the cells of its script, and hold over those
-- that it ran over; a page that it shows is inside the transactions of its state's frames, and its state binds what was bound before; and
-- where web cells of the script were bound, such are bound in it.
pub record IsConsistent (from : Origin) (a : Arena) (cells : List Val) (r : Segment) : Type 0 where
  pub on : AreOn (length a.cells) (map effect_of r.effects.items)
  pub hold : Holds (map effect_of r.effects.items) cells
  pub inside : Keeps r.outcome (λ d. inside_of d.frames ≡ r.entered.items)
  pub binds : Keeps r.outcome (λ d. BindsAllOf (bindings_in from) d.shadows)
  pub names_cells : AreBindings a (bindings_in from) → Keeps r.outcome (λ d. AreBindings a d.shadows)

-- A segment is what the last segment of a run comes to; a page that it shows is inside the transactions of its state's frames.
abbrev pub IsLast : Segment → eval.Segment → Type 0
IsLast r s = (segment_of r ≡ s) × Keeps r.outcome (λ d. inside_of d.frames ≡ s.entered)

-- A segment is the last one of the script, run from its start over this tape. Where it waits for an answer, its state is that of
-- this tape, and of the tape with what was read recorded.
abbrev pub IsLastOver : Arena → Segment → (tape : Reads → Tape) → (now : Reads) → Type 0
IsLastOver a r tape now =
    IsLast r (eval.run (script_of a) (tape now))
    × (Keeps r.outcome (λ d. IsStateOf a (tape now) d)
    × Keeps r.outcome (λ d. IsStateOf a (tape (recorded (reads_of (map effect_of r.effects.items)))) d))

-- A segment from the start is the script over the one segment. One from the state of a tape is the script over the tape with this
-- answer and segment after it.
abbrev pub Replays : Origin → Arena → Answer → Segment → Type 0
Replays Start a x r = IsLastOver a r (λ reads. alone x.segment reads) x.segment.reads
Replays (Page d) a x r = (t : Tape) → IsStateOf a t (suspended_of d) → IsLastOver a r (λ reads. longer (reading reads x) t) x.segment.reads

-- A machine is the one that a segment begins with after this answer.
abbrev pub IsBegun : Origin → Arena → Value → Now → machine.Machine → Type 0
IsBegun from a answer segment m = m ≡ begun from a (record { value = meaning answer; segment = plain.now_of segment })

-- A segment is the script over the newest one, with this answer, number and URL, over these cells and with this fuel, as it goes on from an
-- origin.
abbrev pub ReplaysNewest : Origin → Arena → (answer : Value) → (number : ℕ) → (url : List ℕ) → (cells : List Val) → (fuel : ℕ) → Segment → Type 0
ReplaysNewest from a answer number url cells fuel r = Replays from a (newest (meaning answer) number url cells fuel) r
