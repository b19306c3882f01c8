use Rattle.std.proofs.Common.{◌≡◌, ℕ, ◌≤◌, List, Some, length, slice_get}
use mathlib.Core.List.{IsPrefix}
use Rattle.shelf_lock.specs.Order.{Begins}
use Rattle.shelf_lock.proofs.Closings.{TellsOf}
use Rattle.shelf_lock.proofs.lock.ShelfLock.close.Given as goal

abbrev pub invariant-loop-other : goal.invariant-loop-other
invariant-loop-other g l =
    (l.pass.seat.table_id ≡ l.fn.self.board.shared.table_id)
    × IsPrefix l.passes.items l.fn.passes.items
    × ((log : List _) → Begins g.V.Kept log l.pass.seat.me.0 → (k : ℕ) (p : _) → length l.passes.items ≤ k → slice_get l.fn.passes.items k ≡ Some p → TellsOf g.V.Kept log p.caller p.seat.me.0)

abbrev pub decreases-loop-other : goal.decreases-loop-other
decreases-loop-other g l = length l.passes.items
