use Rattle.std.proofs.Common.{◌≡◌, ◌++◌, ◌+◌, ◌≤◌, ℕ, List, Some, slice_get, length, map, reverse}
use Rattle.std.specs.Vec.{vec_len, vec_capacity}
use Rattle.lock_row.specs.Locks.{lock_homes}
use Rattle.lock_row.specs.Locking.{AreDealt, home_in}
use Rattle.lock_row.proofs.locking.deal_all.Given as goal

abbrev pub invariant-loop-last : goal.invariant-loop-last
invariant-loop-last g l = record {
  room : vec_len l.locks + vec_len l.held ≤ vec_capacity l.locks;
  count : vec_len l.locks + vec_len l.held ≡ vec_len l.fn.held;
  many : length l.columns.items ≡ length l.fn.columns.items;
  homes : (rest : List _) × (l.fn.held.items ≡ l.held.items ++ rest)
      × (lock_homes g.V.Kept l.locks.items ≡ reverse (map (home_in g.V.Kept) rest));
  seats : (k : ℕ) (x : _) → slice_get l.locks.items k ≡ Some x → x.board.shared.key.seats ≡ length l.fn.columns.items;
  dealt : AreDealt (lock_homes g.V.Kept l.locks.items) (vec_len l.held) l.columns.items;
}

abbrev pub decreases-loop-last : goal.decreases-loop-last
decreases-loop-last g l = length l.held.items
