-- What the engine does, as the definitions have it.
use Rattle.std.specs.Prelude.{List, Result}
use Rattle.script_value.specs.Val.{Val}
use Rattle.script_value.specs.declared.outcome.TxName.{TxName}
use Rattle.replay_spec.specs.Tape as spec
use Rattle.segment_progress.specs.declared.halt.Halt.{Halt}
use Rattle.plain_rerun.specs.declared.engine.Engine.{Engine}
use Rattle.segment_progress.specs.States.{inside_of, state_of, Gives, TellsStop}

-- a call took the engine as this action takes its state, with the variables and inside the transactions that it had
abbrev pub Runs : {X Y : Type 0} → (X → Y) → Result X Halt → (old new : Engine) → (List Val → List TxName → spec.Run Y) → Type 0
Runs view r old new action = Gives view r new.progress (action old.env (inside_of old.progress) (state_of old.progress))

-- A call of the engine told a stop of this action whatever memory there is, with the variables and inside the transactions that it had.
abbrev pub TellsStopOf : {X : Type 0} → Result X Halt → (old : Engine) → (List Val → List TxName → spec.Run Val) → Type 0
TellsStopOf r old action = TellsStop r (action old.env (inside_of old.progress) (state_of old.progress))
