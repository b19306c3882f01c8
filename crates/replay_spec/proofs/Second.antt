-- The run over other cells over which the first's effects hold.
use Rattle.std.proofs.Common.{◌≡◌, ℕ, ◌+◌, ◌^◌, min, ℤ, true, List, [], ◌∷◌, ◌++◌, map, Bool, false, Result, Ok, Err, refl, ap, ◌∙◌, arith}
use Rattle.std.specs.Prelude.{IsOk, nat_lt}
use Rattle.script_value.specs.Val.{Val, truth}
use Rattle.script_value.specs.declared.outcome.Fault.{Fault}
use Rattle.script_value.specs.declared.outcome.TxName.{TxName}
use Rattle.instance_cells.specs.Cells.{Effect, read, set, add, cell_of, cell_at, sum, landed, commit, Stands, Holds}
use Rattle.replay_spec.specs.Tape.{State, present, faulted, End, got, stop, charged, note, as_number, added, add_to}
use Rattle.replay_spec.specs.Eval.{Segment, segment_at_end}
use Rattle.replay_spec.specs.Book.{Page}
use Rattle.replay_spec.specs.Next.{Home, home_of, past, answered, newest, page_visit}
use Rattle.replay_spec.specs.Step.{settles, gone_for}
use Rattle.replay_spec.specs.Laws.{ArePast, end_behind, EffectsHoldRunSame, AHeldRunIsNext}
use Rattle.replay_spec.proofs.Mirror.{Mirror, Mirrors, Ready, image, end_image, at, Steps, run_image}

abbrev over : List Val → Mirror
over cells = record {
  reads = λ es before fuel. present cells fuel;
  effects = λ es. es;
  starts = refl;
  Kept = λ es. Holds es cells;
  Fine = λ o. Unit {0};
}

-- what holds of effects and one more holds of the effects, and of the one over what they leave
holds_more : (es : List Effect) (e : Effect) (cells : List Val) → Holds (es ++ e ∷ []) cells
    → Holds es cells × Stands e (cell_at (commit es cells) (cell_of e))
holds_more [] e cells h = (tt, h.0)
holds_more (d ∷ es) e cells h = let i = holds_more es e (landed d cells) h.1 in ((h.0, i.0), i.1)

charge_by : (cells : List Val) (inside : List TxName) (over_fuel : Bool) (cost : ℕ) (s : State) (before : List Val) (fuel : ℕ) → Ready (present before fuel) s.later
    → Mirrors (over cells) (at s (present before fuel)) (charged inside over_fuel cost (at s (present before fuel))) (charged inside over_fuel cost (image (over cells) (at s (present before fuel))))
charge_by cells inside true cost s before fuel ready = (λ waits. absurd waits, λ fine k. (k, refl))
charge_by cells inside false cost s before fuel ready = (ready, λ k. (k, refl))

sums : (inside : List TxName) (c : ℕ) (w : Val) (n : ℤ) (r : Result Val Fault) (s : State) → IsOk r → added inside c w n r s ≡ got (truth true) (note (add c n) s)
sums inside c w n r s h = grind arith

adds_by : (cells : List Val) (inside : List TxName) (c : ℕ) (n : ℤ) (s : State) (before : List Val) (fuel : ℕ) → Ready (present before fuel) s.later
    → (r : Result Val Fault) → sum (cell_at (commit s.effects before) c) n ≡ r
    → Mirrors (over cells) (at s (present before fuel))
    (added inside c (cell_at (commit s.effects before) c) n r (at s (present before fuel)))
    (add_to inside c (cell_at (commit s.effects cells) c) (Ok n) (image (over cells) (at s (present before fuel))))
adds_by cells inside c n s before fuel ready (Ok v) e = (
  ready,
  λ h.
      let i = holds_more s.effects (add c n) cells h in
      (i.0, sums inside c (cell_at (commit s.effects cells) c) n (sum (cell_at (commit s.effects cells) c) n) (image (over cells) (at s (present before fuel))) i.1),
)
adds_by cells inside c n s before fuel ready (Err k) e = (
  λ waits. absurd waits,
  λ fine h.
      let i = holds_more s.effects (read c (cell_at (commit s.effects before) c)) cells h in
      let t = image (over cells) (at s (present before fuel)) in
      (i.0, ap (λ (w : Val). added inside c w n (sum w n) t) i.1 ∙ ap (λ (r : Result Val Fault). added inside c (cell_at (commit s.effects before) c) n r t) e),
)

adds : (cells : List Val) (inside : List TxName) (c : ℕ) (n : Result ℤ Fault) (s : State) (before : List Val) (fuel : ℕ) → Ready (present before fuel) s.later
    → Mirrors (over cells) (at s (present before fuel))
    (add_to inside c (cell_at (commit s.effects before) c) n (at s (present before fuel)))
    (add_to inside c (cell_at (commit s.effects cells) c) n (image (over cells) (at s (present before fuel))))
adds cells inside c (Ok n) s before fuel ready = adds_by cells inside c n s before fuel ready (sum (cell_at (commit s.effects before) c) n) refl
adds cells inside c (Err k) s before fuel ready = (
  λ waits. absurd waits,
  λ fine h.
      let i = holds_more s.effects (read c (cell_at (commit s.effects before) c)) cells h in
      let f : Val → End Val = λ v. stop (faulted k) inside (note (read c v) (image (over cells) (at s (present before fuel)))) in
      (i.0, ap f i.1),
)

steps : (cells : List Val) → Steps (over cells)
steps cells = record {
  charges = λ inside n s before fuel ready. charge_by cells inside (nat_lt fuel (min (s.cost + n) (2 ^ 63))) (min (s.cost + n) (2 ^ 63)) s before fuel ready;
  reads = λ c s before fuel ready. (
    ready,
    λ h.
        let i = holds_more s.effects (read c (cell_at (commit s.effects before) c)) cells h in
        (i.0, ap (λ (v : Val). got v (note (read c v) (image (over cells) (at s (present before fuel))))) i.1),
  );
  sets = λ c v s before fuel ready. (ready, λ h. ((holds_more s.effects (set c v) cells h).0, refl));
  adds = λ inside c v s before fuel ready. adds cells inside c (as_number v) s before fuel ready;
}

outcome_same : (cells : List Val) (e : End Val) → segment_at_end (end_image (over cells) e) ≡ segment_at_end e
outcome_same cells (got v t) = refl
outcome_same cells (stop o names t) = refl

pub same : EffectsHoldRunSame
same s past a are fuel before now h =
    ap segment_at_end (run_image (over now) (steps now) s past a are before fuel tt h) ∙ outcome_same now (end_behind s past a (present before fuel))

-- the pages after a visit are past
pub pages_past : (h : Home) (ps : List Page) → ArePast (map (answered h) ps)
pages_past h [] = tt
pages_past h (p ∷ ps) = (tt, pages_past h ps)

pub is_next : AHeldRunIsNext
is_next rules b t at before h =
    let v = page_visit b t at in
    ap (λ (o : Segment). settles rules b (gone_for rules t at) v o)
    (same v.script.script (map (answered (home_of v)) v.pages) (newest v (present before rules.fuel)) (pages_past (home_of v) v.pages) rules.fuel before at.instance.cells h)
