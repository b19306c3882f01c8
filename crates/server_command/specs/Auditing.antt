-- What auditing the journals of shelves comes to.
use Rattle.std.specs.Prelude.{⊤, ◌≡◌, ◌<◌, ◌≤◌, ◌++◌, ◌∷◌, ◌+◌, ℕ, List, [], length, Option, Some, None, IsTrue, Result, Ok, Err, codes, slice_get}
use Rattle.std.specs.Fmt.{decimal}
use Rattle.std.specs.Io.KnownBytes.{Appends}
use Rattle.web_outside.specs.Causes.{Rose}
use Rattle.web_outside.specs.Pieces.{IsCutShort}
use Rattle.web_disk.specs.View.{RackView, AreAmong}
use Rattle.web_disk.specs.declared.rack.RackFault.{RackFault}
use Rattle.web_disk.specs.declared.rack.RackFault.TheVariants as rack_fault
use Rattle.trio_rack.specs.Trios.{KeepsHome, shelves_of}
use Rattle.page_audit.specs.AuditSpec.Findings.{Answer, Finding, is_damaged, no, yes}
use Rattle.page_audit.specs.AuditSpec.declared.word.Word.{Word}
use Rattle.page_audit.specs.AuditSpec.declared.word.Word.TheVariants as word
use Rattle.page_audit.specs.Audits.{audit_of}
use Rattle.page_audit.specs.declared.answer.Audited.{Audited}
use Rattle.page_audit.specs.declared.answer.Audited.TheVariants as answer
use Rattle.page_audit.specs.declared.answer.AuditFault.{AuditFault}
use Rattle.page_audit.specs.declared.answer.AuditFault.TheVariants as fault
use Rattle.play_desk.specs.Asking.{AsksForFirst, AsksForOne, AsksForSome, AsksUntil}
use Rattle.play_steps.specs.Rules.{StaysUp}
use Rattle.server_command.specs.declared.auditing.AuditCause.{AuditCause}
use Rattle.server_command.specs.declared.auditing.AuditCause.TheVariants as cause
use Rattle.server_command.specs.declared.auditing.AuditEnd.{AuditEnd}
use Rattle.server_command.specs.declared.program.Status.{Status}
use Rattle.server_command.specs.declared.program.Status.TheVariants as status
use Rattle.server_command.specs.Output.{memory_line, Answers, BreaksOff, Output, PrintsTo, Sinks, Tells}
use Rattle.server_command.specs.Racks.{Racks, AreHeld, ShelfFailed, damaged, disk_line, unfit_line}

-- ---- the lines

-- the word of a record to which an audit says no
abbrev pub word_text : Word → List ℕ
word_text word.Sweep = codes "sweep"
word_text word.Number = codes "number"
word_text word.Target = codes "target"
word_text word.Run = codes "run"
word_text word.Evicted = codes "evicted"
word_text word.Deadline = codes "deadline"
word_text word.State = codes "state"

-- the line of a shelf with so many records, to each of which an audit says yes: `shelf SHELF ok RECORDS`
abbrev pub ok_line : (shelf records : ℕ) → List ℕ
ok_line shelf n = codes "shelf " ++ (decimal shelf ++ (codes " ok " ++ (decimal n ++ 10 ∷ [])))

-- the line of a record to which an audit says no: `error 12 SHELF PLACE WORD`
abbrev pub finding_line : (shelf : ℕ) → Finding → List ℕ
finding_line shelf f = codes "error 12 " ++ (decimal shelf ++ 32 ∷ (decimal f.place ++ 32 ∷ (word_text f.word ++ 10 ∷ [])))

-- the lines of the shelves from this number on, whose disks hold these, up to the first of them to which an audit does not say yes
abbrev pub ok_text_by : (shelf : ℕ) → Answer → (later : List ℕ) → List ℕ
ok_text_by shelf (yes n) later = ok_line shelf n ++ later
ok_text_by shelf _ later = []

-- The lines of the shelves from this number on, up to the first of them to which an audit does not say yes.
abbrev pub ok_text : (shelf : ℕ) → List (List ℕ) → List ℕ
ok_text shelf [] = []
ok_text shelf (image ∷ images) = ok_text_by shelf (audit_of image) (ok_text (shelf + 1) images)

-- nothing is told of shelves to which an audit says yes, where they are served after it
abbrev pub no_text : List (List ℕ) → List ℕ
no_text images = []

-- the output where the audits of all shelves say yes, of which this is told
abbrev pub all_audited : (text : List ℕ) → Output
all_audited text = record { text = text; error = []; status = 0 }

-- ---- the disks

-- an audit says yes to these bytes, whatever the count of their records is
abbrev pub IsYes : List ℕ → Type 0
IsYes image = (n : ℕ) × (audit_of image ≡ yes n)

-- an audit says yes to each of these
abbrev pub AreYes : List (List ℕ) → Type 0
AreYes [] = ⊤
AreYes (image ∷ images) = IsYes image × AreYes images

-- What the disks of each shelf may hold they might hold before: nothing was written on them, at no moment.
abbrev pub ShelvesHoldNoMore : (before after : RackView) → Type 0
ShelvesHoldNoMore before after = (n : ℕ) → AreAmong ((shelves_of after).holds n) ((shelves_of before).holds n)

-- the disks of each of these shelves, from number 0 on, may hold what was read of them and nothing else
abbrev pub HoldWhatWasRead : RackView → List (List ℕ) → Type 0
HoldWhatWasRead rack images =
    (k : ℕ) (image left : List ℕ) → slice_get images k ≡ Some image → (shelves_of rack).holds k left → left ≡ image

-- an audit says yes to whatever the disks of so many shelves may hold
abbrev pub HoldYes : (count : ℕ) → RackView → Type 0
HoldYes count rack = (k : ℕ) (image : List ℕ) → k < count → (shelves_of rack).holds k image → IsYes image

-- The journals of the first shelves were audited, and each answer was yes. Their disks, which held these, were asked for, shelf by shelf and in
-- order, and no others; nothing was written, and what was read is all that they may hold.
pub record HavePassed (rack : Racks) (images : List (List ℕ)) : Type 0 where
  pub held : IsTrue rack.tells → AreHeld (shelves_of rack.before).holds 0 images
  pub fine : IsTrue rack.tells → AreYes images
  pub no_more : IsTrue rack.tells → ShelvesHoldNoMore rack.before rack.after
  pub left : IsTrue rack.tells → HoldWhatWasRead rack.after images
  pub asked : AsksForFirst (length images) rack.before rack.after
  pub later : rack.before.faults ≤ rack.after.faults

-- the journals of so many shelves were audited, in order, and each answer was yes
abbrev pub HaveAllPassed : Racks → (count : ℕ) → Type 0
HaveAllPassed rack count = (images : List (List ℕ)) × HavePassed rack images × (length images ≡ count)

-- Of so many shelves those before this one were audited, in order: their disks held these, and each answer was yes. Then the disks of this one
-- were asked for, up to one of them or all, and no others. Nothing was written on any.
pub record HaveComeTo (rack : Racks) (count shelf : ℕ) (images : List (List ℕ)) : Type 0 where
  pub low : shelf < count
  pub many : length images ≡ shelf
  pub held : IsTrue rack.tells → AreHeld (shelves_of rack.before).holds 0 images
  pub fine : IsTrue rack.tells → AreYes images
  pub no_more : IsTrue rack.tells → ShelvesHoldNoMore rack.before rack.after
  pub asked : AsksUntil count shelf rack.before rack.after

-- all disks of this shelf were asked for, and to what they held the audit gave this answer
pub record HasAnswered (rack : Racks) (shelf : ℕ) (answer : Answer) : Type 0 where
  pub asked : AsksForFirst (shelf + 1) rack.before rack.after
  pub image : List ℕ
  pub held : IsTrue rack.tells → (shelves_of rack.before).holds shelf image
  pub answered : IsTrue rack.tells → audit_of image ≡ answer

-- why the audits of so many shelves ended at this one, where the disks of those before it held these
abbrev pub StopsBy : Racks → (count : ℕ) → List (List ℕ) → (shelf : ℕ) → AuditCause → Type 0
StopsBy rack count images shelf cause.Disk = HaveComeTo rack count shelf images × ShelfFailed rack shelf
StopsBy rack count images shelf (cause.Damaged place) = HaveComeTo rack count shelf images × HasAnswered rack shelf (is_damaged place)
StopsBy rack count images shelf (cause.Found place w) =
    HaveComeTo rack count shelf images × HasAnswered rack shelf (no (record { place = place; word = w }))
StopsBy rack count images shelf cause.Memory = HaveComeTo rack count shelf images

-- the audits of so many shelves ended at one of them
abbrev pub StopsAt : Racks → (count : ℕ) → AuditEnd → Type 0
StopsAt rack count end = (images : List (List ℕ)) × StopsBy rack count images end.shelf end.why

-- the audits of so many shelves came to their end, or ended at one of them
abbrev pub ComesThrough : Racks → (count : ℕ) → Result ⊤ AuditEnd → Type 0
ComesThrough rack count (Ok passed) = HaveAllPassed rack count
ComesThrough rack count (Err end) = StopsAt rack count end

-- ---- one shelf

-- the disks of this shelf were asked for, each once and in order, and no others; and to what they held the audit gave this answer
pub record AnswersOne (rack : Racks) (shelf : ℕ) (answer : Answer) : Type 0 where
  pub asked : AsksForOne shelf rack.before rack.after
  pub image : List ℕ
  pub held : IsTrue rack.tells → (shelves_of rack.before).holds shelf image
  pub answered : IsTrue rack.tells → audit_of image ≡ answer

-- the answer was yes, to so many records, and what was read is all that the disks may hold
pub record PassesOne (rack : Racks) (shelf records : ℕ) : Type 0 where
  pub answers : AnswersOne rack shelf (yes records)
  pub left : IsTrue rack.tells → (left : List ℕ) → (shelves_of rack.after).holds shelf left → left ≡ answers.image

-- why the answer was not yes, or why there was none
abbrev pub StopsOne : Racks → (shelf : ℕ) → AuditCause → Type 0
StopsOne rack shelf cause.Disk = AsksForSome shelf rack.before rack.after × ShelfFailed rack shelf
StopsOne rack shelf (cause.Damaged place) = AnswersOne rack shelf (is_damaged place)
StopsOne rack shelf (cause.Found place w) = AnswersOne rack shelf (no (record { place = place; word = w }))
StopsOne rack shelf cause.Memory = AsksForSome shelf rack.before rack.after

-- the journal of a shelf was answered yes, to so many records, or it was not
abbrev pub ComesOne : Racks → (shelf : ℕ) → Result ℕ AuditCause → Type 0
ComesOne rack shelf (Ok records) = PassesOne rack shelf records
ComesOne rack shelf (Err why) = StopsOne rack shelf why

-- whatever an audit comes to, nothing is written, disks that are home stay so or come back, and no count of faults falls
pub record LeavesShelves (rack : Racks) : Type 0 where
  pub no_more : IsTrue rack.tells → ShelvesHoldNoMore rack.before rack.after
  pub home : KeepsHome rack.before rack.after
  pub later : rack.before.faults ≤ rack.after.faults
  pub failed_later : StaysUp (shelves_of rack.before).failed (shelves_of rack.after).failed

-- ---- what an audit leaves

-- what is told where audits ended at a shelf, after the text that was told of those before it
abbrev pub LeavesStopped : (told : List (List ℕ) → List ℕ) → Racks → (count : ℕ) → Status → Sinks → Type 0
LeavesStopped told rack count status.Disk out =
    (images : List (List ℕ)) × (shelf : ℕ) × StopsBy rack count images shelf cause.Disk
    × (IsTrue rack.tells → Tells (told images) (disk_line shelf) out)
LeavesStopped told rack count status.Journal out =
    (images : List (List ℕ)) × (shelf : ℕ) × (place : ℕ) × StopsBy rack count images shelf (cause.Damaged place)
    × (IsTrue rack.tells → Tells (told images) (unfit_line shelf (damaged place)) out)
LeavesStopped told rack count status.Audit out =
    (images : List (List ℕ)) × (shelf : ℕ) × (place : ℕ) × (w : Word) × StopsBy rack count images shelf (cause.Found place w)
    × (IsTrue rack.tells → Tells (told images) (finding_line shelf (record { place = place; word = w })) out)
LeavesStopped told rack count status.Memory out =
    (images : List (List ℕ)) × (shelf : ℕ) × StopsBy rack count images shelf cause.Memory
    × (IsTrue rack.tells → Tells (told images) memory_line out)
LeavesStopped told rack count _ out = ⊥

-- What an audit of so many shelves leaves, by its status: the lines of all; or those of the first, of which the last could not be written whole, or
-- handed on; or those of the first and the line of the one at which it ended.
abbrev pub LeavesAudit : Racks → (count : ℕ) → Status → Sinks → Type 0
LeavesAudit rack count status.Done out =
    (images : List (List ℕ)) × HavePassed rack images × (length images ≡ count)
    × (IsTrue rack.tells → Answers (all_audited (ok_text 0 images)) 0 out)
LeavesAudit rack count status.Write out =
    (images : List (List ℕ)) × HavePassed rack images × (length images ≤ count) × Rose out.before out.after
    × (IsTrue rack.tells → BreaksOff (all_audited (ok_text 0 images)) out)
LeavesAudit rack count how out = LeavesStopped (ok_text 0) rack count how out

-- ---- how an end is told

-- what an audit's answer counts, or why it counts nothing
abbrev pub counted_of : Result Audited AuditFault → Result ℕ AuditCause
counted_of (Ok (answer.Yes n)) = Ok n
counted_of (Ok (answer.No place w)) = Err (cause.Found place w)
counted_of (Err (fault.Damaged place)) = Err (cause.Damaged place)
counted_of (Err fault.DiskFault) = Err cause.Disk
counted_of (Err fault.Memory) = Err cause.Memory

-- why disks were not audited that were not taken
abbrev pub untaken_for : RackFault → AuditCause
untaken_for rack_fault.Failed = cause.Disk
untaken_for rack_fault.Memory = cause.Memory

-- the line of a shelf at which audits ended; want of memory has a line of its own
abbrev pub end_line : (shelf : ℕ) → AuditCause → Option (List ℕ)
end_line shelf cause.Disk = Some (disk_line shelf)
end_line shelf (cause.Damaged place) = Some (unfit_line shelf (damaged place))
end_line shelf (cause.Found place w) = Some (finding_line shelf (record { place = place; word = w }))
end_line shelf cause.Memory = None

-- the status of audits that ended for this cause
abbrev pub end_status : AuditCause → Status
end_status cause.Disk = status.Disk
end_status (cause.Damaged place) = status.Journal
end_status (cause.Found place w) = status.Audit
end_status cause.Memory = status.Memory

-- the line of a shelf that was answered yes, with so many records, was told; or it was cut short; or there was no memory for it
abbrev pub TellsAudited : (shelf records : ℕ) → Result ⊤ Status → Sinks → Type 0
TellsAudited shelf records (Ok told) out = Appends out.held out.holds (ok_line shelf records)
TellsAudited shelf records (Err status.Write) out = Rose out.before out.after × IsCutShort out.held out.holds (ok_line shelf records)
TellsAudited shelf records (Err status.Memory) out = PrintsTo out memory_line
TellsAudited shelf records (Err how) out = ⊥

-- the line of the shelf at which audits ended was told, or there was no memory for it
pub data TellsEnd (shelf : ℕ) (why : AuditCause) (s : Status) (out : Sinks) : Type 0 where
  told : (line : List ℕ) → end_line shelf why ≡ Some line → s ≡ end_status why → PrintsTo out line → TellsEnd shelf why s out
  untold : s ≡ status.Memory → PrintsTo out memory_line → TellsEnd shelf why s out
