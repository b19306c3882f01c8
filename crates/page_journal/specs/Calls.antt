-- What the calls ensure that append to a journal, replace it, read it and mend its file.
use Rattle.std.specs.Prelude.{◌≡◌, ◌<◌, ◌≤◌, ◌^◌, ◌++◌, ◌∷◌, [], ℕ, Bool, IsErrOf, IsTrue, List, OnOk, Result, Err, length}
use Rattle.web_disk.specs.View.{View, LeavesOnly}
use Rattle.page_journal.specs.Holding.{IsBeforeOrWith, IsEither, IsOneOfEither, MayHold}
use Rattle.page_journal.specs.Records.{at_rest, at_rest_in, format_of, newest, stored}
use Rattle.page_journal.specs.Settled.{HasFailed, IsSettled, bodies_in, length_with, view_of}
use Rattle.page_journal.specs.Taken.{TakesAll}
use Rattle.page_journal.specs.declared.journal.AppendFault.{AppendFault}
use Rattle.page_journal.specs.declared.journal.AppendFault.TheVariants.{Full}
use Rattle.page_journal.specs.declared.journal.Journal.{Journal}
use Rattle.page_journal.specs.declared.repair.JournalFault.{JournalFault}
use Rattle.page_journal.specs.declared.repair.JournalFault.TheVariants as fault

-- The taker takes all records that are stored on a disk, which tells its bytes, unless a call failed.
abbrev pub TakesStored : {T A E : Type 0} → (tells : Bool) → (T → ℕ → List ℕ → T → Type 0) → T → View → Result A E → T → Type 0
TakesStored tells takes old disk result new = IsTrue tells → OnOk result (TakesAll takes old 8 (stored disk.seen) new)

-- The taker takes some records, which have room in a file.
abbrev pub TakesSome : {T : Type 0} → (T → ℕ → List ℕ → T → Type 0) → T → T → Type 0
TakesSome takes old new = (bodies : List (List ℕ)) × TakesAll takes old 8 bodies new × (length (at_rest bodies) ≤ 2 ^ 30)

-- The journal has this body after its records, and can go on.
abbrev pub HasAppended : {D : Type 0} → (D → View) → Journal D → (body : List ℕ) → Journal D → Type 0
HasAppended view old body new = IsSettled view new × (bodies_in view new ≡ bodies_in view old ++ body ∷ [])

-- A crash at any moment of an append leaves the records before it, with the new one or without.
abbrev pub AppendsThroughout : {D : Type 0} → (D → View) → Journal D → (body : List ℕ) → Journal D → Type 0
AppendsThroughout view old body new = LeavesOnly (view_of view old) (view_of view new) (MayHold old.format (bodies_in view old) body)

-- Where the file would be too long with this body, this is told and the journal is as it was.
abbrev pub IsFullFor : {A D : Type 0} → Journal D → (body : List ℕ) → Result A AppendFault → Journal D → Type 0
IsFullFor old body result new =
    let len = length_with old body in
    2 ^ 30 < len → (result ≡ Err (Full len)) × (new ≡ old)

-- The disk's bytes are the records that were stored, at rest in the format of their file.
abbrev pub IsAtRest : View → View → Type 0
IsAtRest old new = new.seen ≡ at_rest_in (format_of old.seen) (stored old.seen)

-- The journal holds the records that were stored on the disk.
abbrev pub HoldsStored : {D : Type 0} → (D → View) → D → Journal D → Type 0
HoldsStored view disk journal = bodies_in view journal ≡ stored (view disk).seen

-- Where a crash left records and one in flight on the disk, the journal holds them, with that one or without it.
abbrev pub HoldsBeforeOrWith : {D : Type 0} → (D → View) → D → Journal D → Type 0
HoldsBeforeOrWith view disk journal = IsBeforeOrWith (view disk) (bodies_in view journal)

-- Where a crash left the records of one of two files on the disk, the journal holds those of one.
abbrev pub HoldsOneOfEither : {D : Type 0} → (D → View) → D → Journal D → Type 0
HoldsOneOfEither view disk journal = IsOneOfEither (view disk) (bodies_in view journal)

-- Where a fault of the disk is told, the count of its faults rose.
abbrev pub FailedIfTold : {A : Type 0} → Result A JournalFault → View → View → Type 0
FailedIfTold result old new = IsErrOf result fault.DiskFault → HasFailed old new

-- The journal holds the records of this file, and can go on.
abbrev pub HasReplaced : {D : Type 0} → (D → View) → (file : List ℕ) → Journal D → Type 0
HasReplaced view file new = IsSettled view new × (bodies_in view new ≡ stored file)

-- A crash at any moment of a replacement leaves the records of the one file or of the other.
abbrev pub ReplacesThroughout : {D : Type 0} → (D → View) → Journal D → (file : List ℕ) → Journal D → Type 0
ReplacesThroughout view old file new =
    LeavesOnly (view_of view old) (view_of view new) (IsEither old.format newest (bodies_in view old) (stored file))
