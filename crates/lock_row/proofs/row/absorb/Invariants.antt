use Rattle.std.proofs.Common.{length, map}
use mathlib.Core.List.{IsPrefix}
use Rattle.lock_row.specs.Locks.{seat_spot, lock_homes}
use Rattle.lock_row.specs.Spots.{IsAt}
use Rattle.lock_row.specs.Rows.{ZipsFrom, Absorbs}
use Rattle.lock_row.proofs.row.absorb.Given as goal

abbrev pub invariant-loop-seat : goal.invariant-loop-seat
invariant-loop-seat g l =
    IsAt (lock_homes g.V.Kept l.fn.locks) l.pass
    × ZipsFrom Absorbs (length l.seats.items) l.fn.pass l.fn.other l.pass
    × IsPrefix (map seat_spot l.seats.items) l.fn.other

abbrev pub decreases-loop-seat : goal.decreases-loop-seat
decreases-loop-seat g l = length l.seats.items
