-- What an audit answers to the bytes of a shelf's disks.
use Rattle.std.specs.Prelude.{◌≡◌, ◌≤◌, ℕ, List, [], ◌∷◌, IsTrue, Result, Ok, Err, ⊤}
use Rattle.web_disk.specs.View.{NoNewImage, LeavesOnly}
use Rattle.web_disk.specs.declared.disk.Disk.{Ghosts}
use Rattle.disk_trio.specs.Trio.{trio_view}
use Rattle.disk_trio.specs.declared.trio.Disks.{Disks}
use Rattle.page_journal.specs.Records.{Log, Damaged, Intact, format_of, records}
use Rattle.page_journal.specs.declared.repair.JournalFault.{JournalFault}
use Rattle.page_journal.specs.declared.repair.JournalFault.TheVariants as journal
use Rattle.setup_reader.specs.Texts.{setup_of_texts}
use Rattle.record_audit.specs.AuditSpec.Findings.{Answer, yes, no, is_damaged, audited}
use Rattle.page_audit.specs.declared.answer.Audited.{Audited}
use Rattle.page_audit.specs.declared.answer.Audited.TheVariants as answer
use Rattle.page_audit.specs.declared.answer.AuditFault.{AuditFault}
use Rattle.page_audit.specs.declared.answer.AuditFault.TheVariants as fault

-- the answer to what the bytes of a journal hold, whose header tells this format
abbrev pub audit_by : (format : ℕ) → Log → Answer
audit_by format (Damaged place) = is_damaged place
audit_by format (Intact bodies) = audited format setup_of_texts bodies

-- the answer to the bytes of a journal
abbrev pub audit_in : List ℕ → Answer
audit_in bytes = audit_by (format_of bytes) (records bytes)

-- the answer to the bytes of the file that is read: yes to no bytes, as to no record
abbrev pub audit_of : List ℕ → Answer
audit_of [] = yes 0
audit_of (byte ∷ bytes) = audit_in (byte ∷ bytes)

-- the result is this answer, unless a call of a disk failed or there was no memory
abbrev pub IsAnswer : Answer → Result Audited AuditFault → Type 0
IsAnswer a (Ok (answer.Yes n)) = a ≡ yes n
IsAnswer a (Ok (answer.No place word)) = a ≡ no (record { place = place; word = word })
IsAnswer a (Err (fault.Damaged place)) = a ≡ is_damaged place
IsAnswer a (Err fault.DiskFault) = ⊤
IsAnswer a (Err fault.Memory) = ⊤

-- why there is no answer, where a journal can't be read for this reason
abbrev pub fault_by : JournalFault → AuditFault
fault_by (journal.Damaged place) = fault.Damaged place
fault_by journal.DiskFault = fault.DiskFault
fault_by journal.Memory = fault.Memory

-- Three disks were only read: the same bytes are read, and a crash, now and at each moment since, leaves what one might have left at first.
pub record IsOnlyRead {D : Type 0} {G : Ghosts D} (old new : Disks D G) : Type 0 where
  pub seen : IsTrue G.tells → (trio_view new).seen ≡ (trio_view old).seen
  pub images : NoNewImage (trio_view old) (trio_view new)
  pub moments : LeavesOnly (trio_view old) (trio_view new) (trio_view old).images
  pub faults : (trio_view old).faults ≤ (trio_view new).faults
