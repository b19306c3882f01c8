-- A step is in its ranges whatever its target is.
use Rattle.play_steps.specs.Step.{Step, take, publish, get, tick, crash, compact, edit, crash_edited, IsStep, IsWithin}

pub step_within : (step : Step) → IsStep step → IsWithin step
step_within (take worker target) is = is.0
step_within (publish worker) is = is
step_within (get worker target) is = is.0
step_within (tick time) is = is
step_within (crash shelf) is = is
step_within (compact shelf) is = is
step_within (edit name text) is = tt
step_within (crash_edited shelf) is = absurd is
