-- The steps of a measured run over a stage.
use Rattle.std.specs.Prelude.{◌≡◌, ℕ, zero, suc, List, [], ◌∷◌, map, Some}
use Rattle.play_steps.specs.Rules.{StageRules}
use Rattle.play_steps.specs.Step.{Step}
use Rattle.play_steps.specs.Transcript.{Run, performed, transcript}
use Rattle.play_steps.specs.declared.report.Report.{Report}
use Rattle.measured_run.specs.declared.step.LoadStep.{LoadStep}
use Rattle.measured_run.specs.Generator.{Source, next_step, learned}
use Rattle.measured_run.specs.Lines.{played}

-- how many steps a measured run has
abbrev pub most_steps : ℕ
most_steps = 20000

-- the next step over a stage in this state, and what the step after it goes by
abbrev pub drawn_over : (r : StageRules) → Source → r.State → LoadStep × Source
drawn_over r source s = next_step (r.shelves s) (r.holds s) source

-- the next step of a measured run over a stage in this state
abbrev pub step_over : (r : StageRules) → Source → r.State → Step
step_over r source s = played (drawn_over r source s).0

-- what is learned of reports, one after the other
abbrev pub learned_from : List Report → Source → Source
learned_from [] source = source
learned_from (x ∷ told) source = learned_from told (learned x source)

-- the new source is the old one after what was learned of these reports
abbrev pub HasLearned : List Report → (old new : Source) → Type 0
HasLearned told old new = new ≡ learned_from told old

-- what the step after the next goes by, where the next tells this
abbrev pub source_past : (r : StageRules) → Source → r.State → List Report → Source
source_past r source s told = learned_from told (drawn_over r source s).1

-- So many steps, each drawn over the state that those before it leave, by what was told of them; their events have these fates.
unfoldable pub steps_drawn : (r : StageRules) → (count : ℕ) → Source → r.State → List r.Fate → List Step
steps_drawn r zero source s fates = []
steps_drawn r (suc count) source s fates =
    let run = performed r (step_over r source s) s fates in
    step_over r source s ∷ steps_drawn r count (source_past r source s run.told) run.state run.fates

-- the transcript of so many drawn steps, from line 1 on
abbrev pub run_drawn : (r : StageRules) → (count : ℕ) → Source → r.State → List r.Fate → Run r
run_drawn r count source s fates = transcript r s 1 (map Some (steps_drawn r count source s fates)) fates
