use Rattle.std.proofs.Common.{◌≡◌, ◌++◌, ◌+◌, ◌≤◌, length, map, reverse}
use Rattle.std.specs.Vec.{vec_len, vec_capacity}
use Rattle.lock_row.specs.Locking.{AreHeld, first_value}
use Rattle.lock_row.proofs.locking.hold_all.Given as goal

abbrev pub invariant-loop-value : goal.invariant-loop-value
invariant-loop-value g l = record {
  room : vec_len l.held + vec_len l.values ≤ vec_capacity l.held;
  count : vec_len l.held + vec_len l.values ≡ vec_len l.fn.values;
  capacity : vec_capacity l.values ≡ vec_capacity l.fn.values;
  held : AreHeld g.V.Kept l.fn.seats l.held.items;
  all : l.fn.values.items ≡ l.values.items ++ reverse (map first_value l.held.items);
}

abbrev pub decreases-loop-value : goal.decreases-loop-value
decreases-loop-value g l = length l.values.items
