-- What a compaction writes, and what becomes of the journal.
use Rattle.std.specs.Prelude.{◌≡◌, ◌<◌, ◌≤◌, ◌+◌, ◌^◌, ℕ, Bool, false, IsTrue, List, length, Result, Ok, Err, ⊤}
use Rattle.std.specs.Global.{Vec}
use Rattle.script_nodes.specs.Setup.{Library}
use Rattle.web_outside.specs.Causes.{Rose}
use Rattle.web_disk.specs.View.{View, NoNewImage, LeavesOnly}
use Rattle.page_journal.specs.Records.{newest, stored}
use Rattle.page_journal.specs.Holding.{IsEither}
use Rattle.page_journal.specs.Replacing.{IsWholeFile}
use Rattle.page_journal.specs.Settled.{IsSettled, view_of, bodies_in, length_of, is_broken}
use Rattle.page_journal.specs.declared.journal.Journal.{Journal}
use Rattle.replay_spec.specs.Compaction.{file_length}
use Rattle.journal_records.specs.Records.{draws, body_of}
use Rattle.journal_records.specs.Roles.{behind_front}
use Rattle.book_recovery.specs.InstanceBook.declared.book.Book.{Book}
use Rattle.file_copies.specs.OfFileNotes.declared.notes.FileNotes.{FileNotes}
use Rattle.file_copies.specs.OfFileNotes.Files.{file_in, total_in, compacted_of, IsNoted, IsPlanned, IsPicked, IsLonger}
use Rattle.file_copies.specs.Copies.{copied, IsCopyOf}
use Rattle.file_copies.specs.declared.copying.CopyFault.{CopyFault}
use Rattle.file_copies.specs.declared.copying.CopyFault.TheVariants as copy
use Rattle.shelf.specs.declared.compaction.CompactFault.{CompactFault}
use Rattle.shelf.specs.declared.compaction.CompactFault.TheVariants as fault
use Rattle.shelf.specs.declared.compaction.Planned.{Planned}

-- how long the compacted file of this book is
abbrev pub length_for : Library → Book → FileNotes → ℕ
length_for library b notes = file_length (compacted_of library b (file_in notes))

-- What stays of a file is as long as this, and each of its bodies no longer than that.
pub record IsPlanOf (notes : FileNotes) (p : Planned) : Type 0 where
  pub many : length p.plan.items ≡ length notes.notes.items
  pub picked : IsPicked p.plan.items notes p.notes
  pub len : p.len ≡ total_in p.notes
  pub short : p.len ≤ 2 ^ 30
  pub longest : IsLonger p.notes.notes.items p.longest
  pub first : p.notes.head ≤ p.longest + 14
  pub low : p.longest ≤ 2 ^ 30

-- these records stay when the file of this book is compacted, and the file is so long
pub record IsPlannedFor (library : Library) (b : Book) (notes : FileNotes) (p : Planned) : Type 0 where
  pub plan : IsPlanned b notes.notes.items p.plan.items
  pub its : IsPlanOf notes p
  pub file : file_in p.notes ≡ compacted_of library b (file_in notes)
  pub noted : IsNoted p.notes
  pub length_is : p.len ≡ length_for library b notes

-- why a file is not compacted: it would be too long, or there was no memory
abbrev pub IsTooLongFor : Library → Book → FileNotes → CompactFault → Type 0
IsTooLongFor library b notes (fault.TooLong n) = (n ≡ length_for library b notes) × (2 ^ 30 < n)
IsTooLongFor library b notes fault.DiskFault = ⊥
IsTooLongFor library b notes fault.Memory = ⊤

-- the bytes can take the place of a file, and are as many as was planned
pub record IsWholeCopy (p : Planned) (file : Vec ℕ) : Type 0 where
  pub whole : IsWholeFile file.items p.longest
  pub len : length file.items ≡ p.len

-- the bytes are the copy of these bodies that was planned, with this number
abbrev pub IsCopyFor : FileNotes → Planned → (number : ℕ) → (bodies : List (List ℕ)) → Vec ℕ → Type 0
IsCopyFor notes p number bodies file = IsCopyOf p.plan.items notes (body_of (draws number)) bodies file.items

-- no call was made that could fail: the journal has the same records, and can go on where it could
pub record IsRoomMade {D : Type 0} (view : D → View) (tells : Bool) (old new : Journal D) : Type 0 where
  pub settled : IsTrue tells → IsSettled view old → IsSettled view new
  pub seen : (view_of view new).seen ≡ (view_of view old).seen
  pub images : NoNewImage (view_of view old) (view_of view new)
  pub moments : LeavesOnly (view_of view old) (view_of view new) (view_of view old).images
  pub faults : (view_of view new).faults ≡ (view_of view old).faults
  pub len : length_of new ≡ length_of old
  pub whole : is_broken new ≡ is_broken old
  pub format : new.format ≡ old.format

-- a call of the disk failed, and the file is as long as it was
pub record HasFailedSo {D : Type 0} (view : D → View) (old new : Journal D) : Type 0 where
  pub cause : Rose (view_of view old).faults (view_of view new).faults
  pub len : length_of new ≡ length_of old
  pub format : new.format ≡ old.format

-- the file took the place of the old one
pub record HasReplaced {D : Type 0} (view : D → View) (tells : Bool) (new : Journal D) (file : List ℕ) : Type 0 where
  pub settled : IsTrue tells → IsSettled view new × (bodies_in view new ≡ stored file)
  pub len : length_of new ≡ length file
  pub whole : is_broken new ≡ false
  pub format : new.format ≡ newest

-- what became of a journal whose file was to give place to this one: it did; there was no room; or a call of the disk failed
abbrev pub IsReplacedAs : {D T : Type 0} → (D → View) → Bool → (old new : Journal D) → (file : List ℕ) → Result T CopyFault → Type 0
IsReplacedAs view tells old new file (Ok x) = HasReplaced view tells new file
IsReplacedAs view tells old new file (Err copy.DiskFault) = HasFailedSo view old new
IsReplacedAs view tells old new file (Err copy.Memory) = IsRoomMade view tells old new

-- a whole file is put in the place of the current one, of this format: a crash at any moment leaves the records of the one or of the other
pub record Replaces {D T : Type 0} (view : D → View) (tells : Bool) (old new : Journal D) (file : List ℕ) (result : Result T CopyFault) : Type 0 where
  pub becomes : IsReplacedAs view tells old new file result
  pub moments : IsTrue tells → LeavesOnly (view_of view old) (view_of view new) (IsEither old.format newest (bodies_in view old) (stored file))
  pub later : (view_of view old).faults ≤ (view_of view new).faults

-- the bodies of the compacted file of this book: in front of them none tells any more that the shelf followed another one's journal
abbrev pub copies_for : (plan : List Bool) → FileNotes → Book → List (List ℕ) → List (List ℕ)
copies_for plan notes b bodies = copied plan notes.drawn (body_of (draws b.logged)) (behind_front bodies)

-- the compacted file took the place of the old one, and this is known of it
pub record HasCompacted {D : Type 0} (view : D → View) (tells : Bool) (old new : Journal D) (notes : FileNotes) (b : Book) (library : Library) (plan : List Bool) (kept : FileNotes) : Type 0 where
  pub file : file_in kept ≡ compacted_of library b (file_in notes)
  pub picked : IsPicked plan notes kept
  pub noted : IsNoted kept
  pub len : length_of new ≡ length_for library b notes
  pub whole : is_broken new ≡ false
  pub format : new.format ≡ newest
  pub settled : IsTrue tells → IsSettled view new × (bodies_in view new ≡ copies_for plan notes b (bodies_in view old))

-- These records stay in the compacted file of this book; a crash at any moment of a call leaves the records of the current file, or those.
pub record IsRewriting {D : Type 0} (view : D → View) (tells : Bool) (old new : Journal D) (notes : FileNotes) (b : Book) : Type 0 where
  pub plan : List Bool
  pub planned : IsPlanned b notes.notes.items plan
  pub moments : IsTrue tells → LeavesOnly (view_of view old) (view_of view new) (IsEither old.format newest (bodies_in view old) (copies_for plan notes b (bodies_in view old)))

-- what became of a journal whose file was to be compacted
abbrev pub IsCompactedAs : {D : Type 0} → (D → View) → Bool → (old new : Journal D) → FileNotes → Book → Library → Result FileNotes CompactFault → Type 0
IsCompactedAs view tells old new notes b library (Ok kept) = (r : IsRewriting view tells old new notes b) × HasCompacted view tells old new notes b library r.plan kept × (length_for library b notes ≤ 2 ^ 30)
IsCompactedAs view tells old new notes b library (Err (fault.TooLong n)) = (n ≡ length_for library b notes) × (2 ^ 30 < n) × (new ≡ old)
IsCompactedAs view tells old new notes b library (Err fault.Memory) = IsRoomMade view tells old new
IsCompactedAs view tells old new notes b library (Err fault.DiskFault) = IsRewriting view tells old new notes b × HasFailedSo view old new × (length_for library b notes ≤ 2 ^ 30)

-- The compacted file of this book is put in the place of the current one, or not.
pub record Rewrites {D : Type 0} (view : D → View) (tells : Bool) (old new : Journal D) (notes : FileNotes) (b : Book) (library : Library) (result : Result FileNotes CompactFault) : Type 0 where
  pub becomes : IsCompactedAs view tells old new notes b library result
  pub later : (view_of view old).faults ≤ (view_of view new).faults
