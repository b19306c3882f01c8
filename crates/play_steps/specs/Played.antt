-- What a run of steps leaves behind.
use Rattle.std.specs.Prelude.{[], ◌≡◌, ◌⊎◌, ◌<◌, ◌≤◌, ◌+◌, ◌-◌, ◌^◌, ℕ, min, count_by, length, List, ◌∷◌, ◌++◌, Option, Some, None, true, false, IfOk, IsOkAnd, MatchResult, Result, Ok, Err, Vec}
use Rattle.std.specs.declared.alloc.Global.{Global}
use Rattle.std.specs.Io.KnownBytes.{Appends}
use Rattle.web_outside.specs.Causes.{Rose}
use Rattle.web_outside.specs.Pieces.{AppendsPart, IsCutShort}
use Rattle.play_steps.specs.Rules.{StageRules}
use Rattle.play_steps.specs.Step.{Step, edit, crashed_at, steps_of, with_crashes}
use Rattle.play_steps.specs.Texts.{print}
use Rattle.play_steps.specs.Transcript.{End, done, bad_line, went, fits, performed, text_of, transcript}
use Rattle.play_steps.specs.declared.stage.Reopen.{Reopen}
use Rattle.play_steps.specs.declared.stage.Reopen.TheVariants as reopen
use Rattle.play_steps.specs.declared.report.Report.{Report}
use Rattle.play_steps.specs.declared.report.Report.TheVariants.{Reopened}
use Rattle.play_steps.specs.declared.performing.Halt.{Halt}
use Rattle.play_steps.specs.declared.performing.Halt.TheVariants as halt
use Rattle.play_steps.specs.declared.run.PlayEnd.{PlayEnd}
use Rattle.play_steps.specs.declared.run.PlayEnd.TheVariants.{Done, Line, Write, Memory, Reopen as Lost}
use Rattle.play_steps.specs.declared.run.Turn.{Turn}
use Rattle.play_steps.specs.declared.run.Turn.TheVariants.{Went, NoFit, Write as TurnWrite, Halted}

-- a stage's state, and how often its devices have failed
pub record Spot (r : StageRules) : Type 0 where
  pub state : r.State
  pub faults : ℕ

-- a stage in this state, whose devices have failed so often
abbrev pub spot : (r : StageRules) → r.State → ℕ → Spot r
spot r s faults = record { state = s; faults = faults }

-- what a sink was given, where it tells it, and where a stage stands
pub record Scene (r : StageRules) : Type 0 where
  pub written : Option (List ℕ)
  pub spot : Spot r

-- a sink that was given this, where it tells it, and a stage in this state, whose devices have failed so often
abbrev pub scene : (r : StageRules) → Option (List ℕ) → r.State → ℕ → Scene r
scene r written s faults = record { written = written; spot = spot r s faults }

-- the steps that a text spells, on the shelves of a state: after each edit the crash of every shelf
abbrev pub played : (r : StageRules) → r.State → (text : List ℕ) → List (Option Step)
played r s text = with_crashes (r.shelves s) (steps_of text)

-- a count rose by at least so many, or stands at the type's end
abbrev pub RoseBy : (count before now : ℕ) → Type 0
RoseBy count before now = min (before + count) (2 ^ 64 - 1) ≤ now

-- the count of faults did not fall, and it rose by one at least for each of these fates that fails
pub record HasRisen (r : StageRules) (fates : List r.Fate) (before now : ℕ) : Type 0 where
  pub later : before ≤ now
  pub fails : RoseBy (count_by r.fails fates) before now

-- a step tells this and leaves this state, for some fates of its events: for these and no more, whatever fates follow them
pub record Came (r : StageRules) (s : Spot r) (step : Step) (told : List Report) (t : Spot r) : Type 0 where
  pub fates : List r.Fate
  pub is : (later : List r.Fate) → performed r step s.state (fates ++ later) ≡ went r told t.state later
  pub risen : HasRisen r fates s.faults t.faults

-- a list has grown by these, where there was memory for it before and still is
abbrev pub Lengthens : {A E : Type 0} → Result (Vec A Global) E → List A → Result (Vec A Global) E → Type 0
Lengthens list more longer = IfOk longer (λ whole. IsOkAnd list (λ front. whole.items ≡ front.items ++ more))

-- a step was performed, whatever it told
abbrev pub Tells : (r : StageRules) → Step → Spot r → Spot r → Type 0
Tells r step s t = (told : List Report) × Came r s step told t

-- the step was a crash of this shelf, which was not opened again for this cause, and this is left of the state before
abbrev pub Crashed : (r : StageRules) → (left : r.State → (shelf : ℕ) → Reopen → Type 0) → Step → (shelf : ℕ) → Reopen → Spot r → Spot r → Type 0
Crashed r left step shelf why s t = (crashed_at step ≡ Some shelf) × (s.faults ≤ t.faults) × left s.state shelf why

-- Why a step was not told: there was no memory for that, or none to open a shelf again that crashed, or another cause not to open
-- it.
abbrev pub HaltsBy : (r : StageRules) → (left : r.State → (shelf : ℕ) → Reopen → Type 0) → Step → Halt → Spot r → Spot r → Type 0
HaltsBy r left step halt.Memory s t = Tells r step s t ⊎ ((shelf : ℕ) × Crashed r left step shelf reopen.Memory s t)
HaltsBy r left step (halt.Reopen shelf reopen.Memory) s t = ⊥
HaltsBy r left step (halt.Reopen shelf reopen.Disk) s t = Crashed r left step shelf reopen.Disk s t × Rose s.faults t.faults
HaltsBy r left step (halt.Reopen shelf why) s t = Crashed r left step shelf why s t

-- what came of performing a step: it told these reports, or this is why it told nothing
abbrev pub Performs : (r : StageRules) → (left : r.State → (shelf : ℕ) → Reopen → Type 0) → Step → Result (Vec Report Global) Halt → Spot r → Spot r
    → Type 0
Performs r left step (Ok reports) s t = Came r s step reports.items t
Performs r left step (Err halt) s t = HaltsBy r left step halt s t

-- this report alone was told, or there was no memory for it
abbrev pub TellsOne : Report → Result (Vec Report Global) Halt → Type 0
TellsOne report result = MatchResult result (λ reports. reports.items ≡ report ∷ []) (λ why. why ≡ halt.Memory)

-- what a crash told: how many instances are live, where there was memory for it, or why the shelf was not opened again
abbrev pub TellsCrash : (shelf : ℕ) → Result ℕ Reopen → Result (Vec Report Global) Halt → Type 0
TellsCrash shelf (Ok live) result = TellsOne (Reopened shelf live) result
TellsCrash shelf (Err reopen.Memory) result = result ≡ Err halt.Memory
TellsCrash shelf (Err why) result = result ≡ Err (halt.Reopen shelf why)

-- what came of the sweeps of a tick: they are performed, and this is what they told, or there was no memory for that
pub record SweepsAll {E : Type 0} (r : StageRules) (step : Step) (result : Result (Vec Report Global) E) (s t : Spot r) : Type 0 where
  pub told : List Report
  pub came : Came r s step told t
  pub is : IfOk result (λ reports. reports.items ≡ told)

-- for some fates, all of which are used, the sink grew by the transcript of the steps, which ends so and leaves this state
pub record Plays (r : StageRules) (steps : List (Option Step)) (end : End) (before after : Scene r) : Type 0 where
  pub fates : List r.Fate
  pub told : List Report
  pub is : transcript r before.spot.state 1 steps fates ≡ record { told = told; end = end; state = after.spot.state; fates = [] }
  pub written : Appends before.written after.written (print told)
  pub risen : HasRisen r fates before.spot.faults after.spot.faults

-- For some fates the run came to a step that fits, performed it and halted there. The sink grew by the whole transcript of the
-- steps before it and by this front of its own text, and so by a front of the transcript of all.
pub record Halts (r : StageRules) (steps : List (Option Step)) (shown : List ℕ) (before after : Scene r) : Type 0 where
  pub front : List (Option Step)
  pub step : Step
  pub rest : List (Option Step)
  pub cut : steps ≡ front ++ Some step ∷ rest
  pub fates : List r.Fate
  pub told : List Report
  pub middle : Spot r
  pub is : (later : List r.Fate) → transcript r before.spot.state 1 front (fates ++ later) ≡ went r told middle.state later
  pub fitting : fits r step middle.state ≡ true
  pub last : List Report
  pub came : Came r middle step last after.spot
  pub reached : transcript r before.spot.state 1 (front ++ Some step ∷ []) (fates ++ came.fates) ≡ went r (told ++ last) after.spot.state []
  pub risen : HasRisen r (fates ++ came.fates) before.spot.faults after.spot.faults
  pub hidden : List ℕ
  pub split : print last ≡ shown ++ hidden
  pub written : Appends before.written after.written (print told ++ shown)
  pub part : AppendsPart before.written after.written (text_of (transcript r before.spot.state 1 steps (fates ++ came.fates)))
  pub later : List ℕ
  pub all : text_of (transcript r before.spot.state 1 steps (fates ++ came.fates)) ≡ (print told ++ shown) ++ (hidden ++ later)

-- For some fates the run came to a crash of this shelf, which fits, and the shelf was not opened again for this cause. The sink grew by
-- the whole transcript of the steps before it, and by nothing of that step; and this is left of the state before.
pub record Loses (r : StageRules) (left : r.State → (shelf : ℕ) → Reopen → Type 0) (steps : List (Option Step)) (shelf : ℕ) (why : Reopen)
    (before after : Scene r) : Type 0 where
  pub front : List (Option Step)
  pub step : Step
  pub rest : List (Option Step)
  pub cut : steps ≡ front ++ Some step ∷ rest
  pub crashed : crashed_at step ≡ Some shelf
  pub fates : List r.Fate
  pub told : List Report
  pub middle : Spot r
  pub is : transcript r before.spot.state 1 front fates ≡ went r told middle.state []
  pub risen : HasRisen r fates before.spot.faults middle.faults
  pub later : middle.faults ≤ after.spot.faults
  pub fitting : fits r step middle.state ≡ true
  pub stands : left middle.state shelf why
  pub written : Appends before.written after.written (print told)

-- the run lost this shelf at a crash of it, as its disk failed, or a call for it
pub record LosesDisk (r : StageRules) (left : r.State → (shelf : ℕ) → Reopen → Type 0) (steps : List (Option Step)) (shelf : ℕ) (before after : Scene r)
    : Type 0 where
  pub loses : Loses r left steps shelf reopen.Disk before after
  pub rose : Rose loses.middle.faults after.spot.faults

-- For some fates the run came to an edit, and there was no memory to see whether it fits. The sink grew by the whole transcript of the
-- steps before it, and these left this state.
pub record Waits (r : StageRules) (steps : List (Option Step)) (before after : Scene r) : Type 0 where
  pub front : List (Option Step)
  pub name : List ℕ
  pub text : List ℕ
  pub rest : List (Option Step)
  pub cut : steps ≡ front ++ Some (edit name text) ∷ rest
  pub fates : List r.Fate
  pub told : List Report
  pub is : transcript r before.spot.state 1 front fates ≡ went r told after.spot.state []
  pub risen : HasRisen r fates before.spot.faults after.spot.faults
  pub written : Appends before.written after.written (print told)

-- Where memory ran out in a run: after a step that was performed, as a shelf that crashed was opened again, or before an edit.
abbrev pub RunsOut : (r : StageRules) → (left : r.State → (shelf : ℕ) → Reopen → Type 0) → List (Option Step) → Scene r → Scene r → Type 0
RunsOut r left steps before after =
    Halts r steps [] before after ⊎ (((shelf : ℕ) × Loses r left steps shelf reopen.Memory before after) ⊎ Waits r steps before after)

-- what a run of steps leaves, by its end; where a text could not be written, some of it is missing
abbrev pub Leaves : (r : StageRules) → (left : r.State → (shelf : ℕ) → Reopen → Type 0) → List (Option Step) → PlayEnd → Scene r → Scene r → Type 0
Leaves r left steps Done before after = Plays r steps done before after
Leaves r left steps (Line number) before after = Plays r steps (bad_line number) before after
Leaves r left steps Write before after = (shown : List ℕ) × (h : Halts r steps shown before after) × (0 < length h.hidden)
Leaves r left steps Memory before after = RunsOut r left steps before after
Leaves r left steps (Lost shelf reopen.Memory) before after = ⊥
Leaves r left steps (Lost shelf reopen.Disk) before after = LosesDisk r left steps shelf before after
Leaves r left steps (Lost shelf why) before after = Loses r left steps shelf why before after

-- the end of a run that halts for this cause
abbrev pub end_of : Halt → PlayEnd
end_of halt.Memory = Memory
end_of (halt.Reopen shelf why) = Lost shelf why

-- the step fits, tells this and leaves this state
pub record Goes (r : StageRules) (step : Step) (told : List Report) (s t : Spot r) : Type 0 where
  pub fitting : fits r step s.state ≡ true
  pub came : Came r s step told t

-- the step was an edit, and there was no memory to see whether it fits: the state is as it was
abbrev pub IsUntried : (r : StageRules) → Step → Halt → Spot r → Spot r → Type 0
IsUntried r (edit name text) halt.Memory s t = t ≡ s
IsUntried r _ _ s t = ⊥

-- what an edit came to: it went, or did not fit, or there was no memory to see that; its count of faults is as it was
abbrev pub TurnsEdit : (r : StageRules) → (name text : List ℕ) → Turn → Spot r → Spot r → Type 0
TurnsEdit r name text Went s t = (r.edit s.state name text ≡ Some t.state) × (t.faults ≡ s.faults)
TurnsEdit r name text NoFit s t = (r.edit s.state name text ≡ None) × (t ≡ s)
TurnsEdit r name text (Halted halt.Memory) s t = t ≡ s
TurnsEdit r name text _ s t = ⊥

-- a step that fits was performed and halted there, or was not tried
abbrev pub Stops : (r : StageRules) → (left : r.State → (shelf : ℕ) → Reopen → Type 0) → Step → Halt → Spot r → Spot r → Type 0
Stops r left step why s t = ((fits r step s.state ≡ true) × HaltsBy r left step why s t) ⊎ IsUntried r step why s t

-- what one step leaves, by what it came to
abbrev pub Turns : (r : StageRules) → (left : r.State → (shelf : ℕ) → Reopen → Type 0) → Step → Turn → Scene r → Scene r → Type 0
Turns r left step Went before after =
    (told : List Report) × Goes r step told before.spot after.spot × Appends before.written after.written (print told)
Turns r left step NoFit before after = (fits r step before.spot.state ≡ false) × (after ≡ before)
Turns r left step TurnWrite before after =
    (told : List Report) × Goes r step told before.spot after.spot × IsCutShort before.written after.written (print told)
Turns r left step (Halted why) before after = Stops r left step why before.spot after.spot × (after.written ≡ before.written)
