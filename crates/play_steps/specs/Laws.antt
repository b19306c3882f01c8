-- What holds of every run of steps, and of the lines that spell them.
use Rattle.std.specs.Prelude.{◌≡◌, ℕ, ◌+◌, List, ◌++◌, map, Option, Some}
use Rattle.play_steps.specs.Rules.{StageRules}
use Rattle.play_steps.specs.Step.{Step, AreSteps, IsStep, line_of, lines_before, lines_in, lines_of, newlines, steps_of}
use Rattle.play_steps.specs.Transcript.{transcript, goes_on}

-- A run of steps and then of others is the run of the first, and then that of the others: over the state, from the line and
-- with the fates that the first leave. Where the first end at a line, it is theirs alone.
abbrev pub RepliesGoOn : StageRules → Type 0
RepliesGoOn r =
    (s : r.State) (number : ℕ) (steps more : List (Option Step)) (fates : List r.Fate)
    → let first = transcript r s number steps fates in
    transcript r s number (steps ++ more) fates
    ≡ goes_on r first.end first (transcript r first.state (number + lines_before steps) more first.fates)

-- bytes are read as these steps alone exactly where they are the lines that spell them, and the steps are in their ranges
abbrev pub LinesAreSteps : Type 0
LinesAreSteps =
    (steps : List Step)
    → (AreSteps steps → steps_of (lines_of steps) ≡ map Some steps)
    × ((bytes : List ℕ) → steps_of bytes ≡ map Some steps → (bytes ≡ lines_of steps) × AreSteps steps)

-- a step has as many lines as newlines stand in what spells it
abbrev pub LinesAreCounted : Type 0
LinesAreCounted = (step : Step) → IsStep step → lines_in step ≡ newlines (line_of step) + 1
