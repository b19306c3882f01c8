use Rattle.std.proofs.Common.{length, map}
use mathlib.Core.List.{IsPrefix}
use Rattle.lock_row.specs.Locks.{note_spot}
use Rattle.lock_row.specs.Spots.{IsOf}
use Rattle.lock_row.specs.Rows.{ZipsFrom, Hears}
use Rattle.lock_row.proofs.row.LockRow.hear.Given as goal

abbrev pub invariant-loop-note : goal.invariant-loop-note
invariant-loop-note g l =
    IsOf l.fn.self l.pass
    × ZipsFrom (Hears g.V.Kept) (length l.notes.items) l.fn.pass l.fn.note l.pass
    × IsPrefix (map note_spot l.notes.items) l.fn.note

abbrev pub decreases-loop-note : goal.decreases-loop-note
decreases-loop-note g l = length l.notes.items
