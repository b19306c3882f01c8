-- What contracts see of a rack in memory.
use Rattle.std.specs.Prelude.{◌≡◌, ℕ, ◌+◌, ◌-◌, ◌^◌, min, Bool, true, false, ◌||◌, not, List, slice_get, option_map, Option, Some, None, Result, Ok, Err}
use Rattle.web_outside.specs.Views.{is_listed}
use Rattle.web_disk.specs.View.{RackView}
use Rattle.web_disk.specs.Asked.{asked_in}
use Rattle.web_disk.specs.Failures.{failed_in}
use Rattle.web_disk.specs.Disks.{memory_view, IsAnew, LeftBy}
use Rattle.web_disk.specs.declared.wreck.Wreck.{Wreck}
use Rattle.web_disk.specs.declared.memory.MemoryDisk.{MemoryDisk}
use Rattle.web_disk.specs.declared.memory_rack.MemoryRack.{MemoryRack}
use Rattle.web_disk.specs.declared.rack.RackFault.{RackFault}
use Rattle.web_disk.specs.declared.rack.RackFault.TheVariants.{Failed, Memory}

-- the place of this number: it has a disk, or its disk is out, or there is no such place
abbrev pub place_of : MemoryRack → ℕ → Option (Option MemoryDisk)
place_of rack number = slice_get rack.disks.items number

-- the disk of a place, if it is there
abbrev pub disk_in : Option (Option MemoryDisk) → Option MemoryDisk
disk_in None = None
disk_in (Some there) = there

-- the place once its disk was taken
abbrev pub emptied : Option (Option MemoryDisk) → Option (Option MemoryDisk)
emptied None = None
emptied (Some there) = Some None

-- what the disk of a place may hold when it is taken
abbrev pub held : Option (Option MemoryDisk) → List ℕ → Type 0
held None image = ⊥
held (Some None) image = ⊥
held (Some (Some disk)) image = (memory_view disk).images image

-- the disk of a place is out
abbrev pub is_empty : Option (Option MemoryDisk) → Bool
is_empty None = false
is_empty (Some None) = true
is_empty (Some (Some disk)) = false

-- a place has a disk
abbrev pub has_disk : Option (Option MemoryDisk) → Bool
has_disk None = false
has_disk (Some None) = false
has_disk (Some (Some disk)) = true

-- what the disk of this number may hold when it is taken
abbrev pub may_hold : MemoryRack → ℕ → List ℕ → Type 0
may_hold rack number image = held (place_of rack number) image

-- the disk of this number is out
abbrev pub is_lent : MemoryRack → ℕ → Bool
is_lent rack number = is_empty (place_of rack number)

-- a rack in memory tells its disks
abbrev pub rack_view : MemoryRack → RackView
rack_view rack = record {
  holds = may_hold rack;
  out = is_lent rack;
  faults = rack.faults;
  failed = failed_in rack.failed;
  asked = asked_in rack.asked;
}

-- what is read of the disk of this number, if it is there
abbrev pub bytes_at : MemoryRack → ℕ → Option (List ℕ)
bytes_at rack number = option_map (λ disk. (memory_view disk).seen) (disk_in (place_of rack number))

-- the next take fails if it is for the disk of this number
abbrev pub take_fails : MemoryRack → ℕ → Bool
take_fails rack number = is_listed rack.takes rack.failing.items || not (has_disk (place_of rack number))

-- how often a take failed, after one with this answer
abbrev pub faults_after_take : {D : Type 0} → Result D RackFault → ℕ → ℕ
faults_after_take (Ok disk) faults = faults
faults_after_take (Err Failed) faults = min (faults + 1) (2 ^ 64 - 1)
faults_after_take (Err Memory) faults = faults

-- the disk that is taken where this one was is what a chosen crash leaves of it, begun anew
abbrev pub IsTakenFrom : Wreck → Option MemoryDisk → MemoryDisk → Type 0
IsTakenFrom wreck None disk = ⊥
IsTakenFrom wreck (Some there) disk = LeftBy wreck there (memory_view disk).seen × IsAnew there disk

-- what a rack is told at first stays
abbrev pub SameRules : MemoryRack → MemoryRack → Type 0
SameRules old new = (new.wreck ≡ old.wreck) × (new.failing.items ≡ old.failing.items)
