-- How the counts of calls that failed go on where shelves are opened, crash and are closed.
use Rattle.std.specs.Prelude.{◌≤◌, ◌+◌, ℕ, Result, IsErrOf}
use Rattle.web_outside.specs.Causes.{Rose}
use Rattle.web_outside.specs.declared.nonces.Counting.{Counting}
use Rattle.web_disk.specs.View.{View, RackView}
use Rattle.trio_rack.specs.Trios.{shelves_of}
use Rattle.shelf.specs.declared.shelf.Shelf.{Shelf}
use Rattle.play_steps.specs.declared.stage.Reopen.{Reopen}
use Rattle.play_steps.specs.declared.stage.Reopen.TheVariants as reopen
use Rattle.play_desk.specs.Opening.{CountRose, CountStays, FailsAt, faults_left}
use Rattle.play_desk.specs.Staff.{faults_in, total}
use Rattle.play_desk.specs.declared.staff.Staff.{Staff}

-- How often calls of a rack and of the disks of a staff's shelves have failed in all.
abbrev pub faults_beside : {D : Type 0} → (D → View) → RackView → Staff D → ℕ
faults_beside view rack staff = total rack.faults (faults_in view staff.shelves.items)

-- No fewer calls of a rack and of the disks of a staff's shelves have failed than before.
abbrev pub FaultsStay : {D : Type 0} → (D → View) → (old : RackView) → (before : Staff D) → (new : RackView) → (now : Staff D) → Type 0
FaultsStay view old before new now = faults_beside view old before ≤ faults_beside view new now

-- Where a shelf was not opened again as a disk failed, more calls of the rack and of the disks of all shelves have failed than before.
abbrev pub FaultsRise : {T D : Type 0} → (D → View) → Result T Reopen → (old : RackView) → (before : Staff D) → (new : RackView)
    → (now : Staff D) → Type 0
FaultsRise view result old before new now = IsErrOf result reopen.Disk → Rose (faults_beside view old before) (faults_beside view new now)

-- Where a shelf was not opened again as a disk failed, the count of its number rose over what its disk had failed.
abbrev pub FailsThere : {T D : Type 0} → (D → View) → Result T Reopen → (before : Staff D) → (place : ℕ) → (old new : RackView) → Type 0
FailsThere view result before place old new = IsErrOf result reopen.Disk → FailsAt view before.shelves.items place old new

-- Where a shelf was not opened as a disk failed, the count of this number rose.
abbrev pub FailsOf : {T : Type 0} → Result T Reopen → (number : ℕ) → (old new : RackView) → Type 0
FailsOf result number old new = IsErrOf result reopen.Disk → Rose ((shelves_of old).failed number) ((shelves_of new).failed number)

-- Where a shelf was not begun on a disk as that failed, the count of this number rose over what the disk had failed.
abbrev pub FailsOn : {T : Type 0} → Result T Reopen → (number : ℕ) → View → (old new : RackView) → Type 0
FailsOn result number disk old new =
    IsErrOf result reopen.Disk → Rose ((shelves_of old).failed number + disk.faults) ((shelves_of new).failed number)

-- The count of this number is no lower than it was with what a disk that was given back had failed.
abbrev pub CountsFor : (number : ℕ) → View → (old new : RackView) → Type 0
CountsFor number disk old new = (shelves_of old).failed number + disk.faults ≤ (shelves_of new).failed number

-- Where a shelf was not begun on a disk as that failed, the whole count rose beside other disks of any count of faults.
abbrev pub RisesInAll : {D : Type 0} → (D → View) → Result (Shelf D Counting) Reopen → View → (old new : RackView) → Type 0
RisesInAll view result disk old new = IsErrOf result reopen.Disk → CountRose old.faults disk.faults new.faults (faults_left view result)

-- Whatever came of beginning a shelf on a disk, the whole count did not fall beside other disks of any count of faults.
abbrev pub StaysInAll : {D : Type 0} → (D → View) → Result (Shelf D Counting) Reopen → View → (old new : RackView) → Type 0
StaysInAll view result disk old new = CountStays old.faults disk.faults new.faults (faults_left view result)
