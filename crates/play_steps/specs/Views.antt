-- What the program's values stand for.
use Rattle.std.specs.Prelude.{ℕ, List}
use Rattle.std.specs.Borrow.{Bor}
use Rattle.play_steps.specs.declared.step.Step as code
use Rattle.play_steps.specs.declared.step.Step.TheVariants as steps
use Rattle.play_steps.specs.Step.{Step, take, publish, get, tick, crash, compact, edit, crash_edited}

-- the step that the program's step stands for
abbrev pub meaning : code.Step → Step
meaning (steps.Take worker target) = take worker target.now
meaning (steps.Publish worker) = publish worker
meaning (steps.Get worker target) = get worker target.now
meaning (steps.Tick time) = tick time
meaning (steps.Crash shelf) = crash shelf
meaning (steps.Compact shelf) = compact shelf
meaning (steps.Edit name text) = edit name.now text.now
meaning (steps.CrashEdited shelf) = crash_edited shelf

-- a step that was read, and what follows it
abbrev pub step_found : code.Step × Bor (List ℕ) → Step × List ℕ
step_found found = (meaning found.0, found.1.now)
