use Rattle.std.proofs.Common.{◌≡◌, ◌++◌, ◌+◌, ◌≤◌, List, length, map, reverse}
use Rattle.std.specs.Vec.{vec_len, vec_capacity}
use Rattle.script_nodes.specs.Views.{scripts_of}
use Rattle.site.specs.Beginnings.{AreFreshOn, AreNew}
use Rattle.disk_trio.specs.Trio.{trio_view}
use Rattle.disk_trio.specs.declared.trio.Disks.{Disks}
use Rattle.site.proofs.begin.open_all.Given as goal

abbrev pub invariant-loop-number : goal.invariant-loop-number
invariant-loop-number g l = record {
  fresh : AreFreshOn {D = Disks g.row.F.Denot g.F.Disk} {N = g.row.N.Denot} trio_view g.F.Disk.tells g.N.Nonces.nonce (scripts_of l.fn.setup) l.fn.rules (reverse l.fn.disks.items) (reverse l.fn.nonces.items) l.shelves.items;
  unopened : AreNew l.disks.items;
  many : (vec_len l.shelves ≡ l.number) × (length l.shelves.items ≡ l.number);
  room : l.fn.rules.shelves ≤ vec_capacity l.shelves;
  left : (vec_len l.disks + l.number ≡ l.fn.rules.shelves) × (vec_len l.nonces + l.number ≡ l.fn.rules.shelves);
  capacity : (vec_capacity l.disks ≡ vec_capacity l.fn.disks) × (vec_capacity l.nonces ≡ vec_capacity l.fn.nonces);
  disks : (front : List _) × (reverse l.fn.disks.items ≡ front ++ reverse l.disks.items) × (length front ≡ l.number);
  nonces : reverse l.fn.nonces.items ≡ map (λ k. k.shelf.nonces) l.shelves.items ++ reverse l.nonces.items;
}
