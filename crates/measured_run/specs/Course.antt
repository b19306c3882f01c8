-- What a measured run leaves.
use Rattle.std.specs.Prelude.{◌≡◌, ◌<◌, ◌≤◌, ◌⊎◌, ◌+◌, ℕ, Bool, IsTrue, List, [], ◌∷◌, ◌++◌, Result, Ok, Err, Option, Some, None}
use Rattle.measured_run.specs.Fnv.{goes_on}
use Rattle.play_steps.specs.Rules.{StageRules}
use Rattle.play_steps.specs.Step.{Step, crash}
use Rattle.play_steps.specs.Texts.{print}
use Rattle.play_steps.specs.Transcript.{went}
use Rattle.web_outside.specs.Causes.{Rose}
use Rattle.play_steps.specs.Played.{Spot, Crashed, Goes, HasRisen}
use Rattle.play_steps.specs.Staged.{spot_on}
use Rattle.play_steps.specs.declared.performing.Halt.{Halt}
use Rattle.play_steps.specs.declared.performing.Halt.TheVariants as halt
use Rattle.play_steps.specs.declared.stage.Stage.{Ghosts}
use Rattle.play_steps.specs.declared.stage.Reopen.{Reopen}
use Rattle.play_steps.specs.declared.stage.Reopen.TheVariants as reopen
use Rattle.play_steps.specs.declared.report.Report.{Report}
use Rattle.measured_run.specs.Generator.{Source, source_of}
use Rattle.measured_run.specs.Tallies.{counted}
use Rattle.measured_run.specs.declared.measuring.Course.{Course}
use Rattle.measured_run.specs.declared.measuring.Measure.{Measure}
use Rattle.measured_run.specs.Drawing.{step_over, source_past, steps_drawn, run_drawn}
use Rattle.measured_run.specs.Counting.{measure_of}

-- how many shelves a stage has in this state
abbrev pub shelves_of : (r : StageRules) → r.State → ℕ
shelves_of r s = r.shelves s

-- whether each of the first four workers holds a ticket of a stage in this state, in order
abbrev pub holders_of : (r : StageRules) → r.State → List Bool
holders_of r s = r.holds s 0 ∷ r.holds s 1 ∷ r.holds s 2 ∷ r.holds s 3 ∷ []

-- a course after its next step, over a stage in this state, of which this was told
abbrev pub course_past : (r : StageRules) → Course → r.State → List Report → Course
course_past r course s told = record {
  generator = source_past r course.generator s told;
  tally = counted course.tally told;
  hash = goes_on course.hash (print told);
}

-- why a step told nothing, if it told nothing
abbrev pub halt_in : {T : Type 0} → Result T Halt → Option Halt
halt_in (Ok done) = None
halt_in (Err why) = Some why

-- want of memory leaves a step undone; or it is performed, and goes no further; or it is the crash of a shelf that is not opened again
abbrev pub Rests : (r : StageRules) → (left : r.State → (shelf : ℕ) → Reopen → Type 0) → Step → Spot r → Spot r → Type 0
Rests r left step s t =
    (t ≡ s) ⊎ (((told : List Report) × Goes r step told s t) ⊎ ((shelf : ℕ) × Crashed r left step shelf reopen.Memory s t))

-- What one step leaves: it fits, and goes on the course by what it tells; or it is the crash of a shelf that is not opened again; or
-- memory ran out.
abbrev pub GoesOn : (r : StageRules) → (left : r.State → (shelf : ℕ) → Reopen → Type 0) → Option Halt → (old new : Course) → Spot r → Spot r → Type 0
GoesOn r left None old new s t =
    (told : List Report) × Goes r (step_over r old.generator s.state) told s t × (new ≡ course_past r old s.state told)
GoesOn r left (Some halt.Memory) old new s t = Rests r left (step_over r old.generator s.state) s t
GoesOn r left (Some (halt.Reopen shelf reopen.Memory)) old new s t = ⊥
GoesOn r left (Some (halt.Reopen shelf reopen.Disk)) old new s t =
    Crashed r left (step_over r old.generator s.state) shelf reopen.Disk s t × Rose s.faults t.faults
GoesOn r left (Some (halt.Reopen shelf why)) old new s t = Crashed r left (step_over r old.generator s.state) shelf why s t

-- For some fates, all of which are used, the transcript of so many steps, drawn from this source on, tells this and goes to their end;
-- the last of them leaves this state.
pub record Loads (r : StageRules) (count : ℕ) (source : Source) (told : List Report) (before after : Spot r) : Type 0 where
  pub fates : List r.Fate
  pub is : run_drawn r count source before.state fates ≡ went r told after.state []
  pub risen : HasRisen r fates before.faults after.faults

-- some of so many steps of the run went, or all, and no other was performed
pub record LoadsSome (r : StageRules) (count : ℕ) (source : Source) (before after : Spot r) : Type 0 where
  pub done : ℕ
  pub few : done ≤ count
  pub told : List Report
  pub loads : Loads r done source told before after

-- So many steps of the run went, fewer than all, and the next one is a crash of this shelf, which was not opened again for this cause; and
-- this is left of the state before.
pub record LosesShelf (r : StageRules) (left : r.State → (shelf : ℕ) → Reopen → Type 0) (count : ℕ) (source : Source) (shelf : ℕ) (why : Reopen)
    (before after : Spot r) : Type 0 where
  pub done : ℕ
  pub few : done < count
  pub told : List Report
  pub middle : Spot r
  pub loads : Loads r done source told before middle
  pub later : middle.faults ≤ after.faults
  pub stands : left middle.state shelf why
  pub next : steps_drawn r (done + 1) source before.state loads.fates
      ≡ steps_drawn r done source before.state loads.fates ++ crash shelf ∷ []

-- this shelf was lost at a crash of the run, as its disk failed, or a call for it
pub record LosesDisk (r : StageRules) (left : r.State → (shelf : ℕ) → Reopen → Type 0) (count : ℕ) (source : Source) (shelf : ℕ) (before after : Spot r) : Type 0 where
  pub loses : LosesShelf r left count source shelf reopen.Disk before after
  pub rose : Rose loses.middle.faults after.faults

-- What a run of so many steps comes to. Where memory ran out, some of them went; or after some the next is a crash of a shelf, which
-- was not opened again.
abbrev pub Measures : (r : StageRules) → (left : r.State → (shelf : ℕ) → Reopen → Type 0) → (count : ℕ) → Source → Result Measure Halt → Spot r → Spot r → Type 0
Measures r left count source (Ok measure) s t =
    (told : List Report) × Loads r count source told s t × (measure ≡ measure_of count told)
Measures r left count source (Err halt.Memory) s t =
    LoadsSome r count source s t ⊎ ((shelf : ℕ) × LosesShelf r left count source shelf reopen.Memory s t)
Measures r left count source (Err (halt.Reopen shelf reopen.Memory)) s t = ⊥
Measures r left count source (Err (halt.Reopen shelf reopen.Disk)) s t = LosesDisk r left count source shelf s t
Measures r left count source (Err (halt.Reopen shelf why)) s t = LosesShelf r left count source shelf why s t

module _ {S V : Type 0} (G : Ghosts S V) where
  -- What one step leaves of a course and a stage, where the stage's disks tell, and it holds what its own events left.
  abbrev pub HasGone : {T : Type 0} → Result T Halt → (begun : Course) → (old : S) → (before : V) → (gone : Course) → (new : S) → (after : V)
      → Type 0
  HasGone result begun old before gone new after =
      IsTrue G.tells → G.own old → GoesOn G.rules (G.left after) (halt_in result) begun gone (spot_on G old before) (spot_on G new after)

  -- What the measured run of a number comes to over a stage, where the stage's disks tell, and it holds what its own events left.
  abbrev pub HasRun : (count number : ℕ) → Result Measure Halt → (old : S) → (before : V) → (new : S) → (after : V) → Type 0
  HasRun count number result old before new after =
      IsTrue G.tells → G.own old → Measures G.rules (G.left after) count (source_of number) result (spot_on G old before) (spot_on G new after)
