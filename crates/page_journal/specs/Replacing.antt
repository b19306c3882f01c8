-- A file that can take the place of another one.
use Rattle.std.specs.Prelude.{◌≡◌, ℕ, ◌≤◌, ◌^◌, true, List, length, vec_capacity}
use Rattle.web_disk.specs.declared.disk.Disk.{Ghosts}
use Rattle.disk_trio.specs.Filling.{HasRoomToFill, HasRoomToSwitch}
use Rattle.disk_trio.specs.declared.trio.Disks.{Disks}
use Rattle.page_journal.specs.Records.{at_rest, stored}
use Rattle.page_journal.specs.Scanned.{NoLonger}
use Rattle.page_journal.specs.declared.journal.Journal.{Journal}

-- the bytes of a file are its records and a closed gate after them, and no record is longer than this
pub record IsWholeFile (file : List ℕ) (most : ℕ) : Type 0 where
  pub rests : file ≡ at_rest (stored file)
  pub fits : length file ≤ 2 ^ 30
  pub longest : NoLonger most (stored file)

-- a journal has room for a file of this length in the place of its own, and for records of that length
pub record IsReadyToReplace {D : Type 0} {G : Ghosts D} (journal : Journal (Disks D G)) (size longest : ℕ) : Type 0 where
  pub known : journal.disk.known ≡ true
  pub fill : HasRoomToFill journal.disk size
  pub switch : HasRoomToSwitch journal.disk
  pub buffer : longest ≤ vec_capacity journal.buffer
