-- The next step asks of four workers alone.
use Rattle.std.proofs.Common.{◌≡◌, ℕ, suc, zero, ◌<◌, Bool, refl, arith}
use Rattle.measured_run.specs.Generator.{drawn, worker_of, next_step}
use Rattle.measured_run.specs.Laws.{AsksFourWorkers}

module _ (holds others : ℕ → Bool) (at_0 : holds 0 ≡ others 0) (at_1 : holds 1 ≡ others 1) (at_2 : holds 2 ≡ others 2) (at_3 : holds 3 ≡ others 3) where
  agree : (w : ℕ) → w < 4 → holds w ≡ others w
  agree zero small = at_0
  agree (suc zero) small = at_1
  agree (suc (suc zero)) small = at_2
  agree (suc (suc (suc zero))) small = at_3
  agree (suc (suc (suc (suc w)))) small = absurd (omega arith)

pub four_workers : AsksFourWorkers
unfolding next_step
four_workers shelves holds others source at_0 at_1 at_2 at_3 =
    let same = agree holds others at_0 at_1 at_2 at_3 (worker_of (drawn source.number)) (omega arith) in
    rw same refl
