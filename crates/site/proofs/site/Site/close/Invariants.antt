use Rattle.std.proofs.Common.{◌≡◌, ◌++◌, ◌+◌, ◌≤◌, List, length, map, reverse}
use Rattle.std.specs.Vec.{vec_len, vec_capacity}
use Rattle.site.proofs.site.Site.close.Given as goal

abbrev pub invariant-loop-shelf : goal.invariant-loop-shelf
invariant-loop-shelf g l = record {
  room : (vec_len l.disks + vec_len l.shelves ≤ vec_capacity l.disks) × (vec_len l.nonces + vec_len l.shelves ≤ vec_capacity l.nonces) × (vec_len l.histories + vec_len l.shelves ≤ vec_capacity l.histories);
  parts : (front : List _) × (reverse l.initial.shelves.items ≡ front ++ reverse l.shelves.items)
      × (l.disks.items ≡ map (λ k. k.shelf.journal.disk) front)
      × (l.nonces.items ≡ map (λ k. k.shelf.nonces) front)
      × (l.histories.items ≡ map (λ k. k.history) front);
}

abbrev pub decreases-loop-shelf : goal.decreases-loop-shelf
decreases-loop-shelf g l = length l.shelves.items
