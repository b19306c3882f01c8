-- What bounds the steps of a segment.
use Rattle.std.specs.Prelude.{◌≡◌, ◌≤◌, ℕ, suc, List, [], length}
use Rattle.script_value.specs.Val.{Val}
use Rattle.replay_spec.specs.Tape.{present, State}
use Rattle.machine_states.specs.Machine.{Control, visit, value, Point}

-- a segment over present cells: no answer is left, and the cost is within the fuel
pub record InSegment (fuel : ℕ) (s : State) : Type 0 where
  pub cells : List Val
  pub reads : s.segment.reads ≡ present cells fuel
  pub later : s.later ≡ []
  pub cost : s.cost ≤ fuel

-- a step is owed for each frame, and one for a value
abbrev pub owed_by : Control → (frames : ℕ) → ℕ
owed_by (visit n) k = k
owed_by (value v) k = suc k

-- how many steps a machine owes at this point
abbrev pub owed : Point → ℕ
owed p = owed_by p.control (length p.frames)
