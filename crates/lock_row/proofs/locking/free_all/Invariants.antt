use Rattle.std.proofs.Common.{length}
use mathlib.Core.List.{IsPrefix}
use Rattle.lock_row.proofs.locking.free_all.Given as goal

abbrev pub invariant-loop-column : goal.invariant-loop-column
invariant-loop-column g l = IsPrefix l.columns.items l.fn.columns.items

abbrev pub decreases-loop-column : goal.decreases-loop-column
decreases-loop-column g l = length l.columns.items
