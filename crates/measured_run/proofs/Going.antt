-- One step of a measured run, and its end.
use Rattle.std.proofs.Common.{◌≡◌, ◌<◌, ◌||◌, not, ℕ, List, Bool, true, IsTrue, Some, Option, inl, inr, refl, sym, ap, ◌∙◌, subst, arith, Ok, Err}
use Rattle.std.specs.List.{list_any}
use Rattle.measured_run.specs.Fnv.{goes_on}
use Rattle.play_steps.specs.Rules.{StageRules}
use Rattle.play_steps.specs.Step.{Step, is_told, is_crash, crashed_at}
use Rattle.play_steps.specs.Texts.{print}
use Rattle.play_steps.specs.Transcript.{fits}
use Rattle.play_steps.specs.Played.{Spot, Came, HaltsBy}
use Rattle.play_steps.specs.declared.performing.Halt.{Halt}
use Rattle.play_steps.specs.declared.performing.Halt.TheVariants as halt
use Rattle.play_steps.specs.declared.stage.Reopen.{Reopen}
use Rattle.play_steps.specs.declared.stage.Reopen.TheVariants as reopen
use Rattle.play_steps.specs.declared.report.Report.{Report}
use Rattle.measured_run.specs.declared.step.LoadStep.{LoadStep}
use Rattle.measured_run.specs.Generator.{Source, next_step, held_in, Draws}
use Rattle.measured_run.specs.Lines.{played}
use Rattle.measured_run.specs.Tallies.{counted}
use Rattle.measured_run.proofs.Drawn.{four_workers}
use Rattle.measured_run.specs.declared.measuring.Course.{Course}
use Rattle.measured_run.specs.declared.measuring.Measure.{Measure}
use Rattle.measured_run.specs.Drawing.{drawn_over, step_over, learned_from}
use Rattle.measured_run.specs.Counting.{tally_of, measure_of}
use Rattle.measured_run.specs.Course.{GoesOn, Loads, LoadsSome, Measures, course_past, holders_of}
use Rattle.measured_run.proofs.Reached.{Reached, ended, lost, one_past, some}

-- what is drawn over these shelves and workers is drawn over the stage
pub drawn_is : (r : StageRules) (s : r.State) (shelves : ℕ) (holds : List Bool) (source new : Source) (step : LoadStep) → shelves ≡ r.shelves s
    → holds ≡ holders_of r s → Draws shelves holds source step new
    → (step, new) ≡ drawn_over r source s
drawn_is r s shelves holds source new step count workers draws =
    draws ∙ ap (λ n. next_step n (held_in holds) source) count ∙ ap (λ hs. next_step (r.shelves s) (held_in hs) source) workers
    ∙ four_workers (r.shelves s) (held_in (holders_of r s)) (r.holds s) source refl refl refl refl

pub step_is : (r : StageRules) (s : r.State) (source new : Source) (step : LoadStep) (shown : Step) → (step, new) ≡ drawn_over r source s
    → shown ≡ played step → shown ≡ step_over r source s
step_is r s source new step shown draws is = is ∙ ap (λ (p : LoadStep × Source). played p.0) draws

-- what a stage does is known where its disks tell
pub told_by : (tells : Bool) (steps : List (Option Step)) → IsTrue tells → is_told tells steps ≡ true
told_by tells steps known = ap (λ b. b || not (list_any is_crash steps)) known

course_same : (a b : Course) → a.generator ≡ b.generator → a.tally ≡ b.tally → a.hash ≡ b.hash → a ≡ b
course_same a b g t h = λ at. record { generator = g at; tally = t at; hash = h at }

pub course_is : (r : StageRules) (old new : Course) (s : r.State) (source : Source) (step : LoadStep) (told : List Report)
    → (step, source) ≡ drawn_over r old.generator s → new.generator ≡ learned_from told source → new.tally ≡ counted old.tally told
    → new.hash ≡ goes_on old.hash (print told) → new ≡ course_past r old s told
course_is r old new s source step told draws learned tallied hashed =
    course_same new (course_past r old s told)
    (learned ∙ ap (λ (p : LoadStep × Source). learned_from told p.1) draws) tallied hashed

-- a step that told nothing
pub halts_on : (r : StageRules) (left : r.State → ℕ → Reopen → Type 0) (old new : Course) (s t : Spot r) (step : Step) (why : Halt)
    → step ≡ step_over r old.generator s.state → fits r (step_over r old.generator s.state) s.state ≡ true → HaltsBy r left step why s t
    → GoesOn r left (Some why) old new s t
halts_on r left old new s t step halt.Memory is fitting (inl (told, came)) =
    inr (inl (told, record { fitting = fitting; came = subst (λ (x : Step). Came r s x told t) is came }))
halts_on r left old new s t step halt.Memory is fitting (inr (shelf, (crash, later, stands))) = inr (inr (shelf, (ap crashed_at (sym is) ∙ crash, later, stands)))
halts_on r left old new s t step (halt.Reopen shelf reopen.Memory) is fitting halts = halts
halts_on r left old new s t step (halt.Reopen shelf reopen.Disk) is fitting halts = ((ap crashed_at (sym is) ∙ halts.0.0, halts.0.1, halts.0.2), halts.1)
halts_on r left old new s t step (halt.Reopen shelf reopen.NotEmpty) is fitting halts = (ap crashed_at (sym is) ∙ halts.0, halts.1, halts.2)
halts_on r left old new s t step (halt.Reopen shelf (reopen.Damaged place)) is fitting halts = (ap crashed_at (sym is) ∙ halts.0, halts.1, halts.2)
halts_on r left old new s t step (halt.Reopen shelf (reopen.Other place)) is fitting halts = (ap crashed_at (sym is) ∙ halts.0, halts.1, halts.2)
halts_on r left old new s t step (halt.Reopen shelf (reopen.Full len)) is fitting halts = (ap crashed_at (sym is) ∙ halts.0, halts.1, halts.2)

-- a run that ended at such a step
pub halted : (r : StageRules) (left : r.State → ℕ → Reopen → Type 0) (start here there : Spot r) (source : Source) (k count : ℕ) (course past : Course) (why : Halt) → k < count
    → Reached r start source k here course → GoesOn r left (Some why) course past here there → Measures r left count source (Err why) start there
unfolding lost
halted r left start here there source k count course past halt.Memory few reached (inl same) =
    inl (subst (LoadsSome r count source start) (sym same) (some r start here source k count course (omega (arith, few)) reached))
halted r left start here there source k count course past halt.Memory few reached (inr (inl (told, goes))) =
    inl (one_past r start here there source k count course told few goes reached)
halted r left start here there source k count course past halt.Memory few reached (inr (inr (shelf, crash))) =
    inr (shelf, lost r left start here there source k count shelf reopen.Memory course few reached crash)
halted r left start here there source k count course past (halt.Reopen shelf reopen.Memory) few reached goes = goes
halted r left start here there source k count course past (halt.Reopen shelf reopen.Disk) few reached goes =
    record { loses = lost r left start here there source k count shelf reopen.Disk course few reached goes.0; rose = goes.1 }
halted r left start here there source k count course past (halt.Reopen shelf reopen.NotEmpty) few reached goes =
    lost r left start here there source k count shelf reopen.NotEmpty course few reached goes
halted r left start here there source k count course past (halt.Reopen shelf (reopen.Damaged place)) few reached goes =
    lost r left start here there source k count shelf (reopen.Damaged place) course few reached goes
halted r left start here there source k count course past (halt.Reopen shelf (reopen.Other place)) few reached goes =
    lost r left start here there source k count shelf (reopen.Other place) course few reached goes
halted r left start here there source k count course past (halt.Reopen shelf (reopen.Full len)) few reached goes =
    lost r left start here there source k count shelf (reopen.Full len) course few reached goes

measure_same : (a b : Measure) → a.tally ≡ b.tally → a.hash ≡ b.hash → a ≡ b
measure_same a b t h = λ at. record { tally = t at; hash = h at }

-- a run that went to its end
pub measured : (r : StageRules) (left : r.State → ℕ → Reopen → Type 0) (start here : Spot r) (source : Source) (k count : ℕ) (course : Course) (measure : Measure) → k ≡ count
    → measure.tally ≡ course.tally → measure.hash ≡ course.hash → Reached r start source k here course
    → Measures r left count source (Ok measure) start here
measured r left start here source k count course measure all tally hash reached = (
  reached.told,
  subst (λ n. Loads r n source reached.told start here) all (ended r start here source k course reached),
  measure_same measure (measure_of count reached.told) (tally ∙ reached.tallied ∙ ap (λ n. tally_of n reached.told) all) (hash ∙ reached.hashed),
)
