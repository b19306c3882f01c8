use Rattle.std.proofs.Common.{length}
use mathlib.Core.List.{IsPrefix}
use Rattle.lock_row.specs.Locks.{lock_homes}
use Rattle.lock_row.specs.Spots.{IsAt}
use Rattle.lock_row.proofs.Ends.{TellsFrom}
use Rattle.lock_row.proofs.row.take_in.Given as goal

abbrev pub invariant-loop-other : goal.invariant-loop-other
invariant-loop-other g l =
    IsAt (lock_homes g.V.Kept l.fn.locks) l.pass
    × IsPrefix l.others.items l.fn.others.items
    × TellsFrom g.V.Kept (length l.others.items) l.fn.others.items l.fn.pass l.pass

abbrev pub decreases-loop-other : goal.decreases-loop-other
decreases-loop-other g l = length l.others.items
