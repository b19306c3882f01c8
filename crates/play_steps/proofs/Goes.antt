-- Runs of steps go on where they stopped.
use Rattle.std.proofs.Common.{◌≡◌, ℕ, ◌+◌, [], ◌∷◌, List, ◌++◌, Some, None, Bool, true, false, refl, ap, ◌∙◌, arith, if◌then◌else◌}
use Rattle.play_steps.specs.Rules.{StageRules}
use Rattle.play_steps.specs.Step.{lines_in, lines_before}
use Rattle.play_steps.specs.Transcript.{transcript, Run, End, done, bad_line, goes_on, behind, stopped, performed, fits}
use Rattle.play_steps.specs.Laws.{RepliesGoOn}
use Rattle.play_steps.specs.declared.report.Report.{Report}
use Rattle.play_steps.proofs.Runs.{joined}

-- reports, and after them a run and another
pushed : (r : StageRules) (told : List Report) (end : End) (first second : Run r)
    → behind r told (goes_on r end first second) ≡ goes_on r end (behind r told first) second
pushed r told done first second = joined r told first.told second
pushed r told (bad_line number) first second = refl

-- a run, another after it, and one after both
chained : (r : StageRules) (end : End) (first second all : Run r) (third : r.State → List r.Fate → Run r) → first.end ≡ end
    → all ≡ goes_on r second.end second (third second.state second.fates)
    → goes_on r end first all
    ≡ (let both = goes_on r end first second in goes_on r both.end both (third both.state both.fates))
chained r done first second all third same is =
    ap (behind r first.told) is ∙ pushed r first.told second.end second (third second.state second.fates)
chained r (bad_line number) first second all third same is = rw same refl

pub replies_go_on : (r : StageRules) → RepliesGoOn r
unfolding transcript
replies_go_on r s number [] more fates = let same : number + 0 ≡ number = omega arith in rw same refl
replies_go_on r s number (None ∷ steps) more fates = refl
replies_go_on r s number (Some step ∷ steps) more fates =
    by_fit (fits r step s)
    (replies_go_on r (performed r step s fates).state (number + lines_in step) steps more (performed r step s fates).fates)
  where
    first : Run r
    first = performed r step s fates

    second : Run r
    second = transcript r first.state (number + lines_in step) steps first.fates

    all : Run r
    all = transcript r first.state (number + lines_in step) (steps ++ more) first.fates

    third : ℕ → r.State → List r.Fate → Run r
    third n t later = transcript r t n more later

    count : number + lines_in step + lines_before steps ≡ number + (lines_in step + lines_before steps)
    count = omega arith

    by_fit : (b : Bool)
        → all ≡ goes_on r second.end second (third (number + lines_in step + lines_before steps) second.state second.fates)
        → (if b then goes_on r first.end first all else stopped r number s fates)
        ≡ (let both = if b then goes_on r first.end first second else stopped r number s fates in
        goes_on r both.end both (third (number + (lines_in step + lines_before steps)) both.state both.fates))
    by_fit true is =
        chained r first.end first second all (third (number + (lines_in step + lines_before steps))) refl
        (is ∙ ap (λ n. goes_on r second.end second (third n second.state second.fates)) count)
    by_fit false is = refl
