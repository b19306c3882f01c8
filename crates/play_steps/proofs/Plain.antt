-- A line that is a step.
use Rattle.std.proofs.Common.{◌≡◌, ◌^◌, ◌<◌, ◌⊎◌, inl, inr, ⊎_elim, ℕ, List, ◌∷◌, ◌++◌, true, Option, Some, None, ap, ◌∙◌, subst, arith, codes}
use Rattle.std.specs.Prelude.{⊤}
use Rattle.std.specs.Fmt.{decimal}
use Rattle.std.proofs.lemmas.Option.{cond_some}
use Rattle.script_value.specs.Pieces.{cut_at, behind, number_below}
use Rattle.script_value.proofs.Options.{bound}
use Rattle.script_value.proofs.Cuts.{behind_spelled, cut_spelled}
use Rattle.script_value.proofs.Numerals.{number_spelled}
use Rattle.server_limits.specs.Counts.{most_workers}
use Rattle.play_steps.specs.Step.{Step, take, publish, get, tick, crash, compact, edit, crash_edited, worker_of, is_target, aim_of, take_of, publish_of, get_of, tick_of, crash_of, compact_of, first_of, step_of, line_of, IsStep}

-- a step of one line
abbrev pub IsPlain : Step → Type 0
IsPlain (edit name text) = ⊥
IsPlain (crash_edited shelf) = ⊥
IsPlain _ = ⊤

-- the line spells the step, which has no other
pub record IsLine (line : List ℕ) (s : Step) : Type 0 where
  pub spelled : line ≡ line_of s
  pub step : IsStep s
  pub plain : IsPlain s

aim_spelled : (bytes : List ℕ) (aim : ℕ × List ℕ) → aim_of bytes ≡ Some aim
    → (bytes ≡ decimal aim.0 ++ 32 ∷ aim.1) × ((aim.0 < most_workers) × (is_target aim.1 ≡ true))
unfolding aim_of
aim_spelled bytes aim e =
    let parts = bound (cut_at 32 bytes) _ aim e in
    let worker = bound (worker_of parts.0.0) _ aim parts.2 in
    let is = cond_some (is_target parts.0.1) _ aim worker.2 in
    let number = number_spelled most_workers parts.0.0 worker.0 (omega arith) worker.1 in
    let P : ℕ × List ℕ → Type 0 = λ x. (bytes ≡ decimal x.0 ++ 32 ∷ x.1) × ((x.0 < most_workers) × (is_target x.1 ≡ true)) in
    subst P is.1 (cut_spelled 32 bytes parts.0.0 parts.0.1 parts.1 ∙ ap (λ ds. ds ++ 32 ∷ parts.0.1) number.0, (number.1, is.0))

take_spelled : (line : List ℕ) (s : Step) → take_of line ≡ Some s → IsLine line s
unfolding take_of
take_spelled line s e =
    let rest = bound (behind (codes "take ") line) _ s e in
    let aim = bound (aim_of rest.0) _ s rest.2 in
    let is = aim_spelled rest.0 aim.0 aim.1 in
    let same : take aim.0.0 aim.0.1 ≡ s = cc in
    subst (λ (x : Step). IsLine line x) same
    (record { spelled = behind_spelled (codes "take ") line rest.0 rest.1 ∙ ap (λ bytes. codes "take " ++ bytes) is.0; step = is.1; plain = tt })

get_spelled : (line : List ℕ) (s : Step) → get_of line ≡ Some s → IsLine line s
unfolding get_of
get_spelled line s e =
    let rest = bound (behind (codes "get ") line) _ s e in
    let aim = bound (aim_of rest.0) _ s rest.2 in
    let is = aim_spelled rest.0 aim.0 aim.1 in
    let same : get aim.0.0 aim.0.1 ≡ s = cc in
    subst (λ (x : Step). IsLine line x) same
    (record { spelled = behind_spelled (codes "get ") line rest.0 rest.1 ∙ ap (λ bytes. codes "get " ++ bytes) is.0; step = is.1; plain = tt })

publish_spelled : (line : List ℕ) (s : Step) → publish_of line ≡ Some s → IsLine line s
unfolding publish_of
publish_spelled line s e =
    let rest = bound (behind (codes "publish ") line) _ s e in
    let worker = bound (worker_of rest.0) _ s rest.2 in
    let number = number_spelled most_workers rest.0 worker.0 (omega arith) worker.1 in
    let same : publish worker.0 ≡ s = cc in
    subst (λ (x : Step). IsLine line x) same
    (record { spelled = behind_spelled (codes "publish ") line rest.0 rest.1 ∙ ap (λ ds. codes "publish " ++ ds) number.0; step = number.1; plain = tt })

tick_spelled : (line : List ℕ) (s : Step) → tick_of line ≡ Some s → IsLine line s
unfolding tick_of
tick_spelled line s e =
    let rest = bound (behind (codes "tick ") line) _ s e in
    let time = bound (number_below (2 ^ 62) rest.0) _ s rest.2 in
    let number = number_spelled (2 ^ 62) rest.0 time.0 (omega arith) time.1 in
    let same : tick time.0 ≡ s = cc in
    subst (λ (x : Step). IsLine line x) same
    (record { spelled = behind_spelled (codes "tick ") line rest.0 rest.1 ∙ ap (λ ds. codes "tick " ++ ds) number.0; step = number.1; plain = tt })

crash_spelled : (line : List ℕ) (s : Step) → crash_of line ≡ Some s → IsLine line s
unfolding crash_of
crash_spelled line s e =
    let rest = bound (behind (codes "crash ") line) _ s e in
    let shelf = bound (number_below (2 ^ 32) rest.0) _ s rest.2 in
    let number = number_spelled (2 ^ 32) rest.0 shelf.0 (omega arith) shelf.1 in
    let same : crash shelf.0 ≡ s = cc in
    subst (λ (x : Step). IsLine line x) same
    (record { spelled = behind_spelled (codes "crash ") line rest.0 rest.1 ∙ ap (λ ds. codes "crash " ++ ds) number.0; step = number.1; plain = tt })

compact_spelled : (line : List ℕ) (s : Step) → compact_of line ≡ Some s → IsLine line s
unfolding compact_of
compact_spelled line s e =
    let rest = bound (behind (codes "compact ") line) _ s e in
    let shelf = bound (number_below (2 ^ 32) rest.0) _ s rest.2 in
    let number = number_spelled (2 ^ 32) rest.0 shelf.0 (omega arith) shelf.1 in
    let same : compact shelf.0 ≡ s = cc in
    subst (λ (x : Step). IsLine line x) same
    (record { spelled = behind_spelled (codes "compact ") line rest.0 rest.1 ∙ ap (λ ds. codes "compact " ++ ds) number.0; step = number.1; plain = tt })

either : (a b : Option Step) (s : Step) → first_of a b ≡ Some s → (a ≡ Some s) ⊎ (b ≡ Some s)
either None b s e = inr e
either (Some t) b s e = inl e

pub step_spelled : (line : List ℕ) (s : Step) → step_of line ≡ Some s → IsLine line s
unfolding step_of
step_spelled line s e =
    ⊎_elim (take_spelled line s)
    (λ no_take. ⊎_elim (publish_spelled line s)
    (λ no_publish. ⊎_elim (get_spelled line s)
    (λ no_get. ⊎_elim (tick_spelled line s)
    (λ no_tick. ⊎_elim (crash_spelled line s) (compact_spelled line s) (either (crash_of line) (compact_of line) s no_tick))
    (either (tick_of line) (first_of (crash_of line) (compact_of line)) s no_get))
    (either (get_of line) ticks s no_publish))
    (either (publish_of line) (first_of (get_of line) ticks) s no_take))
    (either (take_of line) (first_of (publish_of line) (first_of (get_of line) ticks)) s e)
  where
    ticks : Option Step
    ticks = first_of (tick_of line) (first_of (crash_of line) (compact_of line))
