use Rattle.std.proofs.Common.{◌≡◌, length, map}
use mathlib.Core.List.{IsPrefix}
use Rattle.lock_row.specs.Locks.{seat_spot}
use Rattle.lock_row.specs.Rows.{ZipsFrom}
use Rattle.lock_row.specs.Locking.{Extends}
use Rattle.lock_row.proofs.locking.deal.Given as goal

abbrev pub invariant-loop-seat : goal.invariant-loop-seat
invariant-loop-seat g l =
    ZipsFrom Extends (length l.seats.items) l.fn.columns.items (map seat_spot l.fn.seats.items) l.columns.items
    × IsPrefix l.seats.items l.fn.seats.items
    × (length l.columns.items ≡ length l.fn.columns.items)

abbrev pub decreases-loop-seat : goal.decreases-loop-seat
decreases-loop-seat g l = length l.seats.items
