use Rattle.std.proofs.Common.{◌≡◌, List, Option, Some, slice_get, subst, sym, ◌∙◌}
use Rattle.web_disk.specs.declared.memory.MemoryDisk.{MemoryDisk}
use Rattle.file_disk.proofs.Kept.{stays_there}
use Rattle.file_disk.proofs.memory_shelves.MemoryShelves.make.Goals as goal

pub disks-preserved : goal.disks-preserved
disks-preserved c = record {
  kept = λ n there is.
      subst (λ (l : List (Option MemoryDisk)). slice_get l n ≡ Some (Some there)) (sym c.in_ok-add.ensures.ok)
      (stays_there _ _ n (Some there) (c.disks.invariant.kept n there is));
  wreck = c.add.ensures.wreck ∙ c.disks.invariant.wreck;
  failing = c.add.ensures.failing ∙ c.disks.invariant.failing;
}
