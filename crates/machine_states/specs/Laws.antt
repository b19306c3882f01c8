-- A machine that goes on from what was kept of it comes to what its script comes to when it is run again from its start.
use Rattle.std.specs.Prelude.{◌≡◌, ◌≤◌, ◌<◌, ◌+◌, ◌*◌, ◌^◌, ℕ, List, [], length}
use Rattle.script_value.specs.Val.{Val}
use Rattle.script_value.specs.declared.outcome.TxName.{TxName}
use Rattle.instance_cells.specs.Cells.{reads_of}
use Rattle.web_cells.specs.Own.{BindsAllOf}
use Rattle.script_nodes.specs.Arena.{Arena, IsScript, script_of}
use Rattle.replay_spec.specs.Tape.{Reads, recorded, present, Now, Answer, Tape, State, begins, begin, Outcome}
use Rattle.replay_spec.specs.Eval.{Segment, segment_at, run}
use Rattle.replay_spec.specs.Laws.{Waits, reading, longer}
use Rattle.machine_states.specs.Machine.{visit, value, inside_of, Machine, Suspended, goes, stopped, step, steps}

-- a machine that begins a script over a tape
abbrev pub started : Arena → Tape → Machine
started a t = record { point = record { control = visit 0; env = []; frames = [] }; state = begin a.web t }

-- a machine that goes on with an answer, in the segment after it
abbrev pub resumed : Arena → Suspended → Answer → Machine
resumed a d x = record {
  point = record { control = value x.value; env = d.env; frames = d.frames };
  state = begins x.segment [] d.shadows a.web;
}

-- in so many steps the machine stops with this outcome, inside these transactions, and this is kept of it
pub record Stops (a : Arena) (m : Machine) : Type 0 where
  pub count : ℕ
  pub outcome : Outcome
  pub entered : List TxName
  pub kept : Suspended
  pub state : State
  pub are : steps a count m ≡ stopped outcome entered kept state

-- what the last segment of a machine that stops comes to
abbrev pub segment_of : {a : Arena} {m : Machine} → Stops a m → Segment
segment_of s = segment_at s.outcome s.entered s.state

-- the machine that begins a script over the tape shows a page that waits for an answer, and this is kept of it
pub record IsStateOf (a : Arena) (t : Tape) (d : Suspended) : Type 0 where
  pub stops : Stops a (started a t)
  pub waits : Waits stops.outcome
  pub is : stops.kept ≡ d

-- A machine comes to what the script comes to over this tape: its stop, the transactions that it is inside, effects, those
-- that it left, and cost. Where it shows a page, what is kept is kept over this tape, and over the tape with what was read
-- recorded. It is inside the transactions of its frames. It takes no more steps than its cost and its frames allow, and no
-- more than its fuel and its frames do.
pub record ComesTo (a : Arena) (fuel : ℕ) (m : Machine) (t : Tape) (read : List Val → Tape) : Type 0 where
  pub stops : Stops a m
  pub runs : segment_of stops ≡ run (script_of a) t
  pub shows : Waits stops.outcome → IsStateOf a t stops.kept
  pub recorded : Waits stops.outcome → IsStateOf a (read (reads_of stops.state.effects)) stops.kept
  pub inside : stops.entered ≡ inside_of stops.kept.frames
  pub few : stops.count ≤ 2 * stops.state.cost + length m.point.frames + 2
  pub soon : stops.count ≤ 2 * fuel + length m.point.frames + 2

-- What was kept of a page over a tape, and goes on with an answer, comes to what its script comes to when it is run again from
-- its start over the longer tape.
abbrev pub ResumeEqualsReplay : Type 0
ResumeEqualsReplay =
    (a : Arena) → IsScript a → (t : Tape) (d : Suspended) → IsStateOf a t d → (x : Answer) (cells : List Val) (fuel : ℕ) → fuel < 2 ^ 63
    → let over = λ (reads : Reads). longer (reading reads x) t in
    ComesTo a fuel (resumed a d (reading (present cells fuel) x)) (over (present cells fuel)) (λ vs. over (recorded vs))

-- a tape of one segment, which has these reads
abbrev pub alone : Now → Reads → Tape
alone now reads = record { first = record now { reads = reads }; later = [] }

-- A start comes to what its script comes to over a tape of its one segment.
abbrev pub AStartIsARun : Type 0
AStartIsARun =
    (a : Arena) → IsScript a → (now : Now) (cells : List Val) (fuel : ℕ) → fuel < 2 ^ 63
    → ComesTo a fuel (started a (alone now (present cells fuel))) (alone now (present cells fuel)) (λ vs. alone now (recorded vs))

-- Where a script shows a page over a tape that waits for an answer, one state is kept of it.
abbrev pub EachPageHasOneState : Type 0
EachPageHasOneState =
    (a : Arena) → IsScript a → (t : Tape)
    → (Waits (run (script_of a) t).outcome → (d : Suspended) × IsStateOf a t d)
    × ((d e : Suspended) → IsStateOf a t d → IsStateOf a t e → d ≡ e)

-- The transactions that a page is inside are those of its state's frames.
abbrev pub APageIsInsideItsFrames : Type 0
APageIsInsideItsFrames =
    (a : Arena) → IsScript a → (t : Tape) (d : Suspended) → IsStateOf a t d
    → Waits (run (script_of a) t).outcome × ((run (script_of a) t).entered ≡ inside_of d.frames)

-- However a machine is run, step by step, where it stops first is where it stops, and in no more steps.
abbrev pub TheFirstStopIsTheStop : Type 0
TheFirstStopIsTheStop =
    (a : Arena) (m mid : Machine) (s : Stops a m) (k : ℕ) (o : Outcome) (entered : List TxName) (d : Suspended) (state : State)
    → steps a k m ≡ goes mid → step a mid ≡ stopped o entered d state
    → (k + 1 ≤ s.count) × (stopped o entered d state ≡ stopped s.outcome s.entered s.kept s.state)

-- No web cell is unbound: where a page is answered, the state of each page after it binds the cells that the page's binds.
pub record NoCellIsUnbound : Type 0 where
  pub resumed : (a : Arena) (d : Suspended) (x : Answer) (s : Stops a (resumed a d x)) → BindsAllOf d.shadows s.kept.shadows
  pub replayed : (a : Arena) (t : Tape) (d e : Suspended) (x : Answer) → IsStateOf a t d → IsStateOf a (longer x t) e → BindsAllOf d.shadows e.shadows
