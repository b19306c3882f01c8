-- The places of a rack in memory.
use Rattle.std.proofs.Common.{◌≡◌, ℕ, List, Option, Some, None, unwrap_or, Bool, true, false, ◌||◌, not, refl, ap, subst}
use Rattle.web_disk.specs.Disks.{memory_view}
use Rattle.web_disk.specs.Racks.{disk_in, held, has_disk}
use Rattle.web_disk.specs.declared.memory.MemoryDisk.{MemoryDisk}

-- what the disk that was there may hold, its place may
pub holds_what_it_may : (place : Option (Option MemoryDisk)) (disk : MemoryDisk) → Some disk ≡ disk_in place → (image : List ℕ) → (memory_view disk).images image → held place image
holds_what_it_may None disk is image left = absurd (cc is)
holds_what_it_may (Some None) disk is image left = absurd (cc is)
holds_what_it_may (Some (Some there)) disk is image left =
    let same : disk ≡ there = ap (λ (place : Option MemoryDisk). unwrap_or place disk) is in subst (λ (d : MemoryDisk). (memory_view d).images image) same left

pub has_disk_there : (place : Option (Option MemoryDisk)) (disk : MemoryDisk) → Some disk ≡ disk_in place → has_disk place ≡ true
has_disk_there None disk is = absurd (cc is)
has_disk_there (Some None) disk is = absurd (cc is)
has_disk_there (Some (Some there)) disk is = refl

-- a take that is not listed does not fail where there is a disk
pub goes_well : (listed has : Bool) → listed ≡ false → has ≡ true → (listed || not has) ≡ true → ⊥
goes_well true has not_listed there failing = absurd (cc not_listed)
goes_well false false not_listed there failing = absurd (cc there)
goes_well false true not_listed there failing = absurd (cc failing)
