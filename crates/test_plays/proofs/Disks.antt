-- A rack to which disks are added.
use Rattle.std.proofs.Common.{◌≡◌, ◌++◌, ◌∷◌, [], ℕ, zero, suc, List, Option, Some, slice_get, false, refl}
use Rattle.web_disk.specs.Racks.{is_empty}
use Rattle.web_disk.specs.declared.memory.MemoryDisk.{MemoryDisk}

-- with one more disk none is out, where none was
pub still_home : (disks : List (Option MemoryDisk)) (disk : MemoryDisk) → ((n : ℕ) → is_empty (slice_get disks n) ≡ false)
    → (n : ℕ) → is_empty (slice_get (disks ++ Some disk ∷ []) n) ≡ false
still_home [] disk home zero = refl
still_home [] disk home (suc n) = refl
still_home (first ∷ rest) disk home zero = home zero
still_home (first ∷ rest) disk home (suc n) = still_home rest disk (λ k. home (suc k)) n
