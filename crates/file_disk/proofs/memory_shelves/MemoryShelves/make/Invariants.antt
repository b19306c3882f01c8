use Rattle.std.proofs.Common.{◌≡◌}
use Rattle.file_disk.specs.MemoryRacks.{KeepsDisks}
use Rattle.file_disk.proofs.memory_shelves.MemoryShelves.make.Given as goal

abbrev pub invariant-disks : goal.invariant-disks
invariant-disks l = record {
  kept : KeepsDisks l.fn.self.rack l.self.rack;
  wreck : l.self.rack.wreck ≡ l.fn.self.rack.wreck;
  failing : l.self.rack.failing.items ≡ l.fn.self.rack.failing.items;
}
