-- The step that is drawn fits, and is in its ranges.
use Rattle.std.proofs.Common.{◌≡◌, ℕ, ◌+◌, ◌<◌, ◌≤◌, ◌==◌, ◌%◌, ◌^◌, not, Bool, true, false, List, cond, refl, arith, nat_lt}
use Rattle.std.proofs.lemmas.Bool.{lt-ltb}
use Rattle.play_steps.specs.Rules.{StageRules}
use Rattle.play_steps.specs.Step.{IsWithin, is_edit}
use Rattle.play_steps.specs.Transcript.{fits}
use Rattle.measured_run.specs.declared.step.LoadStep.{LoadStep}
use Rattle.measured_run.specs.declared.step.LoadStep.TheVariants.{Crash, Tick, Publish, Take, Get}
use Rattle.measured_run.specs.Generator.{Source, drawn, lot_of, worker_of, choice_of, visit_target, visit_of, next_step}
use Rattle.measured_run.specs.Lines.{played}
use Rattle.measured_run.specs.Drawing.{step_over}

-- a step that is drawn is no edit
pub none_edits : (step : LoadStep) → is_edit (played step) ≡ false
none_edits (Crash shelf) = refl
none_edits (Tick time) = refl
none_edits (Publish worker) = refl
none_edits (Take worker target) = refl
none_edits (Get worker target) = refl

one_of : (P : LoadStep → Type 0) (b : Bool) (x y : LoadStep) → (b ≡ true → P x) → (b ≡ false → P y) → P (cond b x y)
one_of P true x y p q = p refl
one_of P false x y p q = q refl

-- a step that may be performed over a stage in this state
record Suits (r : StageRules) (s : r.State) (step : LoadStep) : Type 0 where
  within : IsWithin (played step)
  fitting : fits r (played step) s ≡ true

module _ (r : StageRules) (s : r.State) (source : Source) (some : 0 < r.shelves s) (few : r.shelves s ≤ 2 ^ 32) (early : source.clock + 59 < 2 ^ 62) where
  abbrev n : ℕ
  n = drawn source.number

  visit_suits : (w : ℕ) (target : List ℕ) → w < 16 → r.holds s w ≡ false → Suits r s (visit_of (lot_of n) w target)
  visit_suits w target small free =
      let free_is : not (r.holds s w) ≡ true = rw free refl in
      one_of (Suits r s) (lot_of n % 2 == 0) (Take w target) (Get w target)
      (λ even. record { within = small; fitting = free_is }) (λ odd. record { within = small; fitting = free_is })

  drawn_suits : Suits r s (next_step (r.shelves s) (r.holds s) source).0
  unfolding next_step
  drawn_suits =
      let w = worker_of n in
      let target = visit_target source.targets n in
      let made = visit_of (lot_of n) w target in
      let spent = cond (r.holds s w) (Publish w) made in
      let ticked = cond (nat_lt (lot_of n) 21) (Tick (source.clock + choice_of n % 60)) spent in
      let small : w < 16 = omega arith in
      one_of (Suits r s) (lot_of n == 0) (Crash (choice_of n % r.shelves s)) ticked
      (λ zero_lot. record { within = omega arith; fitting = lt-ltb (choice_of n % r.shelves s) (r.shelves s) (omega arith) })
      (λ more. one_of (Suits r s) (nat_lt (lot_of n) 21) (Tick (source.clock + choice_of n % 60)) spent
      (λ low. record { within = omega arith; fitting = refl })
      (λ high. one_of (Suits r s) (r.holds s w) (Publish w) made
      (λ held. record { within = small; fitting = held })
      (λ free. visit_suits w target small free)))

pub drawn_within : (r : StageRules) (s : r.State) (source : Source) → 0 < r.shelves s → r.shelves s ≤ 2 ^ 32
    → source.clock + 59 < 2 ^ 62 → IsWithin (step_over r source s)
drawn_within r s source some few early = (drawn_suits r s source some few early).within

pub drawn_fits : (r : StageRules) (s : r.State) (source : Source) → 0 < r.shelves s → r.shelves s ≤ 2 ^ 32
    → source.clock + 59 < 2 ^ 62 → fits r (step_over r source s) s ≡ true
drawn_fits r s source some few early = (drawn_suits r s source some few early).fitting
