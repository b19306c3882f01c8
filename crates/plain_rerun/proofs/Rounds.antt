-- How many visits may be under a task that is called.
use Rattle.std.proofs.Common.{ℕ, zero, suc, ◌+◌, ◌*◌, ◌<◌, ◌≤◌, arith}

unfoldable pub rounds : (below nodes : ℕ) → ℕ
rounds zero n = 0
rounds (suc j) n = rounds j n + (4 * n + 8)

pub earlier : (k j n : ℕ) → k < j → rounds k n + (4 * n + 8) ≤ rounds j n
unfolding rounds
earlier k zero n h = absurd (omega arith)
earlier zero (suc zero) n h = omega arith
earlier zero (suc (suc j)) n h = let m = earlier zero (suc j) n (omega arith) in omega (arith, m)
earlier (suc k) (suc j) n h = let m = earlier k j n (omega arith) in omega (arith, m)
