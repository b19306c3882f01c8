-- What becomes of a journal of an older format.
use Rattle.std.specs.Global.{Vec}
use Rattle.std.specs.Prelude.{◌≡◌, ◌⊎◌, ◌<◌, ◌≤◌, ◌^◌, ℕ, Bool, false, IsTrue, List, [], length, Option, Some, None, Result, Ok, Err, OnOk, IsErrOf, is_ok, if◌then◌else◌, ◌==◌, ⊤}
use Rattle.book_recovery.specs.SetupReader.Texts.{setup_of_texts}
use Rattle.web_disk.specs.View.{View, NoNewImage, LeavesOnly}
use Rattle.page_journal.specs.Records.{newest, at_rest}
use Rattle.page_journal.specs.Holding.{IsEither}
use Rattle.page_journal.specs.Replacing.{IsWholeFile}
use Rattle.page_journal.specs.Settled.{HasFailed, IsSettled, view_of, bodies_in}
use Rattle.page_journal.specs.declared.journal.Journal.{Journal}
use Rattle.journal_records.specs.Records.{draws, body_of}
use Rattle.book_recovery.specs.JournalSpec.Before.{Made}
use Rattle.book_recovery.specs.JournalSpec.Making.{Making, damaged, other, made_in, book_of}
use Rattle.book_recovery.specs.JournalSpec.Old.{book_of_format}
use Rattle.book_recovery.specs.JournalSpec.Copying.{copies, IsMigrated}
use Rattle.book_recovery.specs.JournalSpec.Standing.{Between, Held}
use Rattle.book_recovery.specs.JournalSpec.Owning.{AreOwn, AreOwnIn}
use Rattle.shelf.specs.Owning.{StaysOwnThroughout}
use Rattle.file_copies.specs.OfFileNotes.declared.notes.FileNotes.{FileNotes}
use Rattle.file_copies.specs.OfFileNotes.Files.{IsPlanned}
use Rattle.file_copies.specs.Copies.{copied}
use Rattle.book_recovery.specs.declared.found.Found.{Found}
use Rattle.book_recovery.specs.declared.found.Found.TheVariants as found
use Rattle.book_recovery.specs.declared.found.ReadBook.{ReadBook}
use Rattle.shelf.specs.declared.begin.BeginFault.{BeginFault}
use Rattle.shelf.specs.declared.begin.BeginFault.TheVariants as fault
use Rattle.shelf.specs.declared.migration.FileAnew.{FileAnew}

-- ---- of bodies

-- the bodies that stay of these, in the newest format, where they make a book
abbrev pub bodies_by : (format shelf : ℕ) → List (List ℕ) → Option Made → List (List ℕ)
bodies_by format shelf bodies (Some m) = copies format setup_of_texts shelf bodies m
bodies_by format shelf bodies None = bodies

-- the bodies that an opening goes on with: of the newest format these, of an older one those that stay, in the newest
abbrev pub bodies_now : (format shelf : ℕ) → List (List ℕ) → List (List ℕ)
bodies_now format shelf bodies =
    if format == newest then bodies else bodies_by format shelf bodies (made_in (book_of_format format setup_of_texts shelf bodies))

-- what an opening goes on with makes this, where the bodies make a book; and else what they make
abbrev pub making_by : (format shelf : ℕ) → List (List ℕ) → Option Made → Making
making_by format shelf bodies (Some m) = book_of setup_of_texts shelf (bodies_now format shelf bodies)
making_by format shelf bodies None = book_of_format format setup_of_texts shelf bodies

-- what an opening goes on with makes of a shelf
abbrev pub making_now : (format shelf : ℕ) → List (List ℕ) → Making
making_now format shelf bodies = making_by format shelf bodies (made_in (book_of_format format setup_of_texts shelf bodies))

-- the file of what an opening goes on with would be so long, which is longer than one may be
pub record IsTooLongAnew (format shelf : ℕ) (bodies : List (List ℕ)) (n : ℕ) : Type 0 where
  pub is : n ≡ length (at_rest (bodies_now format shelf bodies))
  pub long : 2 ^ 30 < n

-- ---- of what was read

-- these records stay of a file that was read, and this number is told
abbrev pub StaysBy : FileNotes → (plan : List Bool) → (number : ℕ) → Found → Type 0
StaysBy notes plan number found.Nothing = (plan ≡ []) × (number ≡ 0)
StaysBy notes plan number (found.Made b library) = IsPlanned b notes.notes.items plan × (number ≡ b.logged)
StaysBy notes plan number _ = ⊥

-- these records of a file that was read stay, and this number is told
abbrev pub StaysOf : ReadBook → Vec Bool × ℕ → Type 0
StaysOf read x = StaysBy read.notes x.0.items x.1 read.found

-- why no book was read
abbrev pub IsNoBookBy : Found → BeginFault → Type 0
IsNoBookBy (found.Damaged place) e = e ≡ fault.Damaged place
IsNoBookBy (found.Other place) e = e ≡ fault.Other place
IsNoBookBy found.Memory e = e ≡ fault.Memory
IsNoBookBy (found.Made b library) e = e ≡ fault.Memory
IsNoBookBy found.Nothing e = ⊥

-- why the file that was read makes no book
abbrev pub IsNoBook : ReadBook → BeginFault → Type 0
IsNoBook read e = IsNoBookBy read.found e

-- records tell the next number of the book that was read
abbrev pub HasLowNumber : Found → Type 0
HasLowNumber (found.Made b library) = b.logged ≤ 2 ^ 62
HasLowNumber _ = ⊤

-- records can tell the next number of the book that was read, if there is one
abbrev pub HasLow : ReadBook → Type 0
HasLow read = HasLowNumber read.found

-- the bodies that the newest format has of what was read; none where there was no record
abbrev pub anew_by : Found → List (List ℕ) → List (List ℕ)
anew_by found.Nothing anew = []
anew_by f anew = anew

-- the bodies of the new file, where these records stay of a file that was read, and this number is told
abbrev pub anew_of : ReadBook → (plan : List Bool) → (number : ℕ) → List (List ℕ)
anew_of read plan number = copied plan false (body_of (draws number)) (anew_by read.found read.anew.items)

-- the file has the records that stay of one that was read
pub record IsFileAnew (read : ReadBook) (file : FileAnew) : Type 0 where
  pub plan : List Bool
  pub number : ℕ
  pub stays : StaysBy read.notes plan number read.found
  pub bytes_are : file.bytes.items ≡ at_rest (anew_of read plan number)
  pub whole : IsWholeFile file.bytes.items file.longest
  pub low : file.longest ≤ 2 ^ 30

-- the file would be so long
pub record IsLongAnew (read : ReadBook) (n : ℕ) : Type 0 where
  pub plan : List Bool
  pub number : ℕ
  pub stays : StaysBy read.notes plan number read.found
  pub is : n ≡ length (at_rest (anew_of read plan number))
  pub long : 2 ^ 30 < n

-- why there is no file
abbrev pub IsNoneAnew : ReadBook → BeginFault → Type 0
IsNoneAnew read (fault.Damaged place) = read.found ≡ found.Damaged place
IsNoneAnew read (fault.Other place) = read.found ≡ found.Other place
IsNoneAnew read (fault.Full n) = IsLongAnew read n
IsNoneAnew read fault.DiskFault = ⊥
IsNoneAnew read fault.Memory = ⊤

-- ---- of the journal

-- why a journal of an older format does not give place to one of the newest, unless the outside failed
abbrev pub IsMigrationFault : (format shelf : ℕ) → List (List ℕ) → BeginFault → Type 0
IsMigrationFault format shelf bodies (fault.Damaged place) = book_of_format format setup_of_texts shelf bodies ≡ damaged place
IsMigrationFault format shelf bodies (fault.Other place) = book_of_format format setup_of_texts shelf bodies ≡ other place
IsMigrationFault format shelf bodies (fault.Full n) = IsTooLongAnew format shelf bodies n
IsMigrationFault format shelf bodies fault.DiskFault = ⊤
IsMigrationFault format shelf bodies fault.Memory = ⊤

-- where a file of an older format does not give place to one of the newest, the fault says why
abbrev pub TellsMigrationFault : {T : Type 0} → (format shelf : ℕ) → List (List ℕ) → Result T BeginFault → Type 0
TellsMigrationFault format shelf bodies (Ok x) = ⊤
TellsMigrationFault format shelf bodies (Err e) = IsMigrationFault format shelf bodies e

-- A crash at any moment of a call leaves what makes this book, which was found, or what makes it with the file of the newest format.
pub record Moves {D : Type 0} (view : D → View) (shelf : ℕ) (old new : Journal D) (w : Made) : Type 0 where
  pub anew : Made
  pub makes : made_in (book_of setup_of_texts shelf (bodies_now old.format shelf (bodies_in view old))) ≡ Some anew
  pub renewed : IsMigrated w anew
  pub between : Between setup_of_texts shelf w.book anew.book
  pub run : LeavesOnly (view_of view old) (view_of view new) (Held between)

-- nothing was written
abbrev pub IsUnwritten : View → View → Type 0
IsUnwritten old new = (new.seen ≡ old.seen) × NoNewImage old new

-- the journal has the records that an opening goes on with, which make what that makes
pub record HasMigrated {D : Type 0} (view : D → View) (shelf : ℕ) (old new : Journal D) : Type 0 where
  pub settled : IsSettled view new
  pub bodies : bodies_in view new ≡ bodies_now old.format shelf (bodies_in view old)
  pub makes : book_of setup_of_texts shelf (bodies_in view new) ≡ making_now old.format shelf (bodies_in view old)
  pub faults : (x : Making) → made_in x ≡ None → book_of setup_of_texts shelf (bodies_in view new) ≡ x → book_of_format old.format setup_of_texts shelf (bodies_in view old) ≡ x

-- A journal of an older format gives place to one of the newest, with the records that stay; one of the newest is left alone. A crash at any
-- moment leaves the records of the one file or of the other. Where that is not so, the disk failed, or nothing was written, and it is told why.
pub record Migrates {D T : Type 0} (view : D → View) (tells : Bool) (shelf : ℕ) (old new : Journal D) (result : Result T BeginFault) : Type 0 where
  pub moved : IsTrue tells → OnOk result (HasMigrated view shelf old new)
  pub moments : IsTrue tells
      → LeavesOnly (view_of view old) (view_of view new) (IsEither old.format newest (bodies_in view old) (bodies_now old.format shelf (bodies_in view old)))
  pub still : old.format ≡ newest → (new ≡ old) × IsTrue (is_ok result)
  pub moves : IsTrue tells → (old.format ≡ newest → ⊥) → (w : Made) → made_in (book_of_format old.format setup_of_texts shelf (bodies_in view old)) ≡ Some w
      → LeavesOnly (view_of view old) (view_of view new) (view_of view old).images ⊎ Moves view shelf old new w
  pub done : IsTrue tells → (old.format ≡ newest → ⊥) → (w : Made) → made_in (book_of_format old.format setup_of_texts shelf (bodies_in view old)) ≡ Some w → OnOk result (Moves view shelf old new w)
  pub own : IsTrue tells → AreOwnIn old.format setup_of_texts shelf (bodies_in view old) → OnOk result (AreOwn setup_of_texts shelf (bodies_in view new))
  pub own_moments : IsTrue tells → AreOwnIn old.format setup_of_texts shelf (bodies_in view old) → StaysOwnThroughout shelf (view_of view old) (view_of view new)
  pub refused : IsTrue tells → TellsMigrationFault old.format shelf (bodies_in view old) result
  pub quiet : (e : BeginFault) → IsErrOf result e → (e ≡ fault.DiskFault → ⊥) → IsUnwritten (view_of view old) (view_of view new)
  pub cause : IsErrOf result fault.DiskFault → HasFailed (view_of view old) (view_of view new)
  pub later : (view_of view old).faults ≤ (view_of view new).faults
