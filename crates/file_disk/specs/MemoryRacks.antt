-- What becomes of the disks of a rack in memory.
use Rattle.std.specs.Prelude.{◌≡◌, ℕ, [], Some, Result, IsErrOf}
use Rattle.web_disk.specs.Racks.{place_of, IsTakenFrom}
use Rattle.web_disk.specs.declared.memory.MemoryDisk.{MemoryDisk}
use Rattle.web_disk.specs.declared.memory_rack.MemoryRack.{MemoryRack}
use Rattle.web_disk.specs.declared.rack.RackFault.{RackFault}
use Rattle.web_disk.specs.declared.rack.RackFault.TheVariants.{Failed}

-- Each disk that was in a rack is in it still.
abbrev pub KeepsDisks : (old new : MemoryRack) → Type 0
KeepsDisks old new = (n : ℕ) (there : MemoryDisk) → place_of old n ≡ Some (Some there) → place_of new n ≡ Some (Some there)

-- The disk that is taken of this number is what a crash leaves of the one that was there, if one was.
abbrev pub TakesThere : MemoryRack → (number : ℕ) → MemoryDisk → Type 0
TakesThere rack number disk =
    (there : MemoryDisk) → place_of rack number ≡ Some (Some there) → IsTakenFrom rack.wreck (Some there) disk

-- Where no take is listed to fail, that of a disk that is there does not fail.
abbrev pub TakesSurely : MemoryRack → (number : ℕ) → Result MemoryDisk RackFault → Type 0
TakesSurely rack number result =
    (there : MemoryDisk) → rack.failing.items ≡ [] → place_of rack number ≡ Some (Some there) → IsErrOf result Failed → ⊥
