use Rattle.std.proofs.Common.{◌≡◌, ◌++◌, ◌+◌, ◌≤◌, List, length, map, reverse}
use Rattle.std.specs.Vec.{vec_len, vec_capacity}
use Rattle.lock_row.proofs.locking.passes_of.Given as goal

abbrev pub invariant-loop-column : goal.invariant-loop-column
invariant-loop-column g l =
    (vec_len l.spare + vec_len l.columns ≤ vec_capacity l.spare)
    × ((rest : List _) × (l.fn.columns.items ≡ l.columns.items ++ rest) × (l.spare.items ≡ reverse (map (λ c. c.spots) rest)))

abbrev pub decreases-loop-column : goal.decreases-loop-column
decreases-loop-column g l = length l.columns.items
