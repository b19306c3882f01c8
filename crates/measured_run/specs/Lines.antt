-- The lines that spell the steps of a measured run.
use Rattle.std.specs.Prelude.{ℕ, ◌<◌, List, ◌++◌, codes}
use Rattle.std.specs.Fmt.{decimal}
use Rattle.play_steps.specs.Step as play
use Rattle.measured_run.specs.declared.step.LoadStep.{LoadStep}
use Rattle.measured_run.specs.declared.step.LoadStep.TheVariants.{Crash, Tick, Publish, Take, Get}

-- a word, a worker and a target, with single spaces
abbrev pub visit_line : List ℕ → ℕ → List ℕ → List ℕ
visit_line word worker target = word ++ codes " " ++ decimal worker ++ codes " " ++ target

-- the step of `play` that a step of a measured run is
abbrev pub played : LoadStep → play.Step
played (Crash shelf) = play.crash shelf
played (Tick time) = play.tick time
played (Publish worker) = play.publish worker
played (Take worker target) = play.take worker target
played (Get worker target) = play.get worker target

-- the line of a step, without the newline
abbrev pub line_of : LoadStep → List ℕ
line_of step = play.line_of (played step)

-- the shelf, the worker, the time and the target of a step are in their ranges
abbrev pub IsLoadStep : (shelves : ℕ) → LoadStep → Type 0
IsLoadStep shelves (Crash shelf) = shelf < shelves
IsLoadStep shelves (Tick time) = play.IsStep (play.tick time)
IsLoadStep shelves (Publish worker) = play.IsStep (play.publish worker)
IsLoadStep shelves (Take worker target) = play.IsStep (play.take worker target)
IsLoadStep shelves (Get worker target) = play.IsStep (play.get worker target)
