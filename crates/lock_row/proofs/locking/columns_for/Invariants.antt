use Rattle.std.proofs.Common.{◌≡◌, ◌≤◌}
use Rattle.std.specs.Vec.{vec_len, vec_capacity}
use Rattle.lock_row.specs.Locking.{AreEmpty}
use Rattle.lock_row.proofs.locking.columns_for.Given as goal

abbrev pub invariant-loop-caller : goal.invariant-loop-caller
invariant-loop-caller g l =
    (l.fn.seats ≤ vec_capacity l.columns) × (vec_len l.columns ≡ l.caller) × AreEmpty l.caller l.fn.places l.columns.items
