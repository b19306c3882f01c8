use Rattle.std.proofs.Common.{◌≡◌, ◌++◌, ◌+◌, List, length, map, reverse}
use Rattle.std.specs.Vec.{vec_len, vec_capacity}
use Rattle.std.specs.List.{AllZip}
use Rattle.lock_row.specs.Rows.{ComesBack}
use Rattle.lock_row.specs.Locking.{first_value}
use Rattle.lock_row.proofs.locking.undo_all.Given as goal

abbrev pub invariant-loop-last : goal.invariant-loop-last
invariant-loop-last g l =
    (vec_len l.values + vec_len l.held ≡ vec_len l.fn.values + vec_len l.fn.held)
    × (vec_capacity l.values ≡ vec_capacity l.fn.values)
    × ((rest : List _) × ((back : List _) × (l.fn.held.items ≡ l.held.items ++ rest) × (l.values.items ≡ l.fn.values.items ++ back)
    × AllZip (ComesBack g.V.Kept) (reverse (map first_value rest)) back))

abbrev pub decreases-loop-last : goal.decreases-loop-last
decreases-loop-last g l = length l.held.items
