-- The disks of several shelves, each of the three by itself.
use Rattle.std.specs.Prelude.{◌≡◌, ◌<◌, ℕ, List, length, Some, slice_get}
use Rattle.web_disk.specs.View.{RackView, AreAmong}
use Rattle.web_disk.specs.declared.disk.Disk.{Ghosts}
use Rattle.disk_trio.specs.declared.trio.Disks.{Disks}
use Rattle.trio_rack.specs.Numbers.{IsNoneOf}
use Rattle.trio_rack.specs.Trios.{AreFrom, AreGivenTo}

-- what each disk that is of none of the first shelves may hold it might hold before
abbrev pub LeavesDisksBehind : (count : ℕ) → (old new : RackView) → Type 0
LeavesDisksBehind count old new = (number : ℕ) → ((k : ℕ) → k < count → IsNoneOf k number) → AreAmong (new.holds number) (old.holds number)

-- the disks of the first shelves were taken: each holds what the rack might hold under its number, and no other disk was written on
pub record TakesEach {D : Type 0} {G : Ghosts D} (old new : RackView) (disks : List (Disks D G)) : Type 0 where
  pub from : (k : ℕ) (d : Disks D G) → slice_get disks k ≡ Some d → AreFrom old k d
  pub behind : LeavesDisksBehind (length disks) old new

-- the disks of the first shelves were given back: the rack may hold under each number what that disk may leave, and no other disk was
-- written on
pub record GivesEach {D : Type 0} {G : Ghosts D} (old new : RackView) (disks : List (Disks D G)) : Type 0 where
  pub to : (k : ℕ) (d : Disks D G) → slice_get disks k ≡ Some d → AreGivenTo new k d
  pub behind : LeavesDisksBehind (length disks) old new
