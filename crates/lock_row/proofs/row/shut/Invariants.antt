use Rattle.std.proofs.Common.{◌≡◌, ◌+◌, ◌≤◌, ◌++◌, List, length, map, reverse}
use Rattle.std.specs.Vec.{vec_len, vec_capacity}
use Rattle.std.specs.List.{AllZip}
use Rattle.shelf_lock.specs.Order.{Begins}
use Rattle.lock_row.specs.Rows.{IsClosed}
use Rattle.lock_row.proofs.row.shut.Given as goal

abbrev pub invariant-loop-lock : goal.invariant-loop-lock
invariant-loop-lock g l = record {
  own : map (λ p. p.seat.table_id) l.seats.items ≡ map (λ k. k.board.shared.table_id) l.locks.items;
  room : vec_len l.values + vec_len l.locks ≤ vec_capacity l.values;
  told : (rest : List _) × (l.fn.seats.items ≡ l.seats.items ++ rest) × AllZip (λ p x. Begins g.V.Kept (g.V.Kept.history x) p.seat.me.0) rest (reverse l.values.items);
  closed : (rest : List _) × (l.fn.locks.items ≡ l.locks.items ++ rest) × AllZip (λ p x. IsClosed g.V.Kept p.board.shared.key x) rest (reverse l.values.items);
}

abbrev pub decreases-loop-lock : goal.decreases-loop-lock
decreases-loop-lock g l = length l.locks.items
