-- What is found on a disk that is read and not mended.
use Rattle.std.specs.Prelude.{◌≡◌, ◌≢◌, ◌≤◌, ℕ, List, [], length, Option, Some, None, vec_capacity}
use Rattle.web_disk.specs.View.{View, LeavesOnly, NoNewImage}
use Rattle.page_journal.specs.Records.{Intact, format_of, records, stored}
use Rattle.page_journal.specs.Scanned.{NoLonger}
use Rattle.page_journal.specs.declared.reading.StoredRecords.{StoredRecords}

-- nothing was written: a crash, now and at each moment since, leaves what one might have left at first
pub record IsUnwritten (old new : View) : Type 0 where
  pub images : NoNewImage old new
  pub moments : LeavesOnly old new old.images
  pub faults : old.faults ≤ new.faults

-- these bytes are a journal's, and the body of none of its records is longer than this
pub record HoldRecords (bytes : List ℕ) (longest : ℕ) : Type 0 where
  pub intact : records bytes ≡ Intact (stored bytes)
  pub short : NoLonger longest (stored bytes)

-- the records that were found are those of these bytes, and so is their format
pub record AreStored (bytes : List ℕ) (found : StoredRecords) : Type 0 where
  pub holds : HoldRecords bytes (vec_capacity found.buffer)
  pub len : found.len ≡ length bytes
  pub format : found.format ≡ format_of bytes

-- what is found on a disk with these bytes: nothing where there are none, else their records
abbrev pub IsFoundOn : List ℕ → Option StoredRecords → Type 0
IsFoundOn bytes None = bytes ≡ []
IsFoundOn bytes (Some found) = (bytes ≢ []) × AreStored bytes found
