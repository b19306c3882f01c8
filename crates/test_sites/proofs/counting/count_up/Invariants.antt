use Rattle.std.proofs.Common.{◌≡◌}
use Rattle.test_sites.proofs.counting.count_up.Given as goal

abbrev pub invariant-loop-turn : goal.invariant-loop-turn
invariant-loop-turn g l = l.pass.seat.table_id ≡ l.fn.lock.board.shared.table_id
