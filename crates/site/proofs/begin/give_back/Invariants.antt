use Rattle.std.proofs.Common.{◌≡◌, ◌++◌, ◌+◌, ◌≤◌, List, length, map, reverse}
use Rattle.std.specs.Vec.{vec_len, vec_capacity}
use Rattle.site.proofs.begin.give_back.Given as goal

abbrev pub invariant-loop-shelf : goal.invariant-loop-shelf
invariant-loop-shelf g l = record {
  room : (vec_len l.disks + vec_len l.shelves ≤ vec_capacity l.disks) × (vec_len l.nonces + vec_len l.shelves ≤ vec_capacity l.nonces);
  capacity : (vec_capacity l.disks ≡ vec_capacity l.fn.disks) × (vec_capacity l.nonces ≡ vec_capacity l.fn.nonces);
  back : (rest : List _) × (l.fn.shelves.items ≡ l.shelves.items ++ rest)
      × (l.disks.items ≡ l.fn.disks.items ++ reverse (map (λ k. k.shelf.journal.disk) rest))
      × (l.nonces.items ≡ l.fn.nonces.items ++ reverse (map (λ k. k.shelf.nonces) rest));
}

abbrev pub decreases-loop-shelf : goal.decreases-loop-shelf
decreases-loop-shelf g l = length l.shelves.items
