-- The whole run of steps over a stage's rules: what is told, how it ends, and what it leaves.
use Rattle.std.specs.Prelude.{ℕ, zero, suc, ◌+◌, Bool, true, not, nat_lt, List, [], ◌∷◌, ◌++◌, Option, Some, None, Result, Ok, Err, is_some, unwrap_or, if◌then◌else◌}
use Rattle.script_value.specs.declared.outcome.Reply.{Reply}
use Rattle.play_steps.specs.Reports.{take_report, sweep_report, compact_report}
use Rattle.play_steps.specs.Rules.{StageRules, Call, answered, event}
use Rattle.play_steps.specs.Step.{Step, take, publish, get, tick, crash, compact, edit, crash_edited, lines_in}
use Rattle.play_steps.specs.Texts.{print}
use Rattle.play_steps.specs.declared.report.Report.{Report}
use Rattle.play_steps.specs.declared.report.Report.TheVariants.{Replied, Reopened}

-- where a run ends: after the last step, or at the line of this number
pub data End : Type 0 where
  done : End
  bad_line : ℕ → End

-- a run: what is told, how it ends, the state that it leaves, and the fates that are left for later events
pub record Run (r : StageRules) : Type 0 where
  pub told : List Report
  pub end : End
  pub state : r.State
  pub fates : List r.Fate

-- what a run prints
abbrev pub text_of : {r : StageRules} → Run r → List ℕ
text_of run = print run.told

-- a run that told these reports and goes on
abbrev pub went : (r : StageRules) → List Report → r.State → List r.Fate → Run r
went r told s fates = record { told = told; end = done; state = s; fates = fates }

-- a run that told nothing and stands at the line of this number
abbrev pub stopped : (r : StageRules) → ℕ → r.State → List r.Fate → Run r
stopped r number s fates = record { told = []; end = bad_line number; state = s; fates = fates }

-- a run with these reports told before its own
abbrev pub behind : (r : StageRules) → List Report → Run r → Run r
behind r told run = record { told = told ++ run.told; end = run.end; state = run.state; fates = run.fates }

-- the second run after the first, where the first goes on
abbrev pub goes_on : (r : StageRules) → End → Run r → Run r → Run r
goes_on r done first second = behind r first.told second
goes_on r (bad_line number) first second = first

-- the fate of the next event; a fate that is not listed is plain
abbrev pub first_fate : (r : StageRules) → List r.Fate → r.Fate
first_fate r [] = r.plain
first_fate r (f ∷ fates) = f

-- the fates of the events after the next one
abbrev pub later_fates : (r : StageRules) → List r.Fate → List r.Fate
later_fates r [] = []
later_fates r (f ∷ fates) = fates

-- a worker's step fits where the worker holds a ticket to publish, or none to take; a crash and a compaction, where there is the shelf; an
-- edit, where the stage gives a state for it
abbrev pub fits : (r : StageRules) → Step → r.State → Bool
fits r (take worker target) s = not (r.holds s worker)
fits r (publish worker) s = r.holds s worker
fits r (get worker target) s = not (r.holds s worker)
fits r (tick time) s = true
fits r (crash shelf) s = nat_lt shelf (r.shelves s)
fits r (compact shelf) s = nat_lt shelf (r.shelves s)
fits r (edit name text) s = is_some (r.edit s name text)
fits r (crash_edited shelf) s = nat_lt shelf (r.shelves s)

-- a call, and the run that follows its answer; an event takes one fate
abbrev pub called : (r : StageRules) → {A : Type 0} → Call r.State r.Fate A → r.State → List r.Fate
    → (A → r.State → List r.Fate → Run r) → Run r
called r (answered a) s fates next = next a s fates
called r (event by) s fates next = let x = by (first_fate r fates) in next x.0 x.1 (later_fates r fates)

-- the run of a publish, which tells its reply
abbrev pub published : (r : StageRules) → ℕ → r.State → List r.Fate → Run r
published r worker s fates = called r (r.publish s worker) s fates (λ reply. went r (Replied worker reply ∷ []))

-- the run of a get after its take: where it was given a number it goes on to its publish; any other answer is its reply
abbrev pub got : (r : StageRules) → ℕ → Result ℕ Reply → r.State → List r.Fate → Run r
got r worker (Ok number) s fates = published r worker s fates
got r worker (Err refused) s fates = went r (Replied worker refused ∷ []) s fates

-- the run of the sweeps of this many shelves, from this one on
abbrev pub swept : (r : StageRules) → ℕ → ℕ → ℕ → r.State → List r.Fate → Run r
swept r time zero shelf s fates = went r [] s fates
swept r time (suc count) shelf s fates =
    called r (r.sweep s shelf time) s fates
    (λ x t later. behind r (sweep_report shelf x ∷ []) (swept r time count (shelf + 1) t later))

-- the run of a crash of a shelf
abbrev pub crashed : (r : StageRules) → ℕ → r.State → List r.Fate → Run r
crashed r shelf s fates = called r (r.crash s shelf) s fates (λ live. went r (Reopened shelf live ∷ []))

-- the run of a compaction of a shelf
abbrev pub compacted : (r : StageRules) → ℕ → r.State → List r.Fate → Run r
compacted r shelf s fates = called r (r.compact s shelf) s fates (λ x. went r (compact_report shelf x ∷ []))

-- the run of one step; an edit tells nothing by itself
abbrev pub performed : (r : StageRules) → Step → r.State → List r.Fate → Run r
performed r (take worker target) s fates =
    called r (r.take s worker target) s fates (λ x. went r (take_report worker x ∷ []))
performed r (publish worker) s fates = published r worker s fates
performed r (get worker target) s fates = called r (r.take s worker target) s fates (got r worker)
performed r (tick time) s fates = swept r time (r.shelves s) 0 s fates
performed r (crash shelf) s fates = crashed r shelf s fates
performed r (compact shelf) s fates = compacted r shelf s fates
performed r (edit name text) s fates = went r [] (unwrap_or (r.edit s name text) s) fates
performed r (crash_edited shelf) s fates = crashed r shelf s fates

-- the run of the steps from this state and this line on
unfoldable pub transcript : (r : StageRules) → r.State → ℕ → List (Option Step) → List r.Fate → Run r
transcript r s number [] fates = went r [] s fates
transcript r s number (None ∷ steps) fates = stopped r number s fates
transcript r s number (Some step ∷ steps) fates =
    if fits r step s
    then (let x = performed r step s fates in
    goes_on r x.end x (transcript r x.state (number + lines_in step) steps x.fates))
    else stopped r number s fates
