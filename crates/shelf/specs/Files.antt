-- The records of a journal's file.
use Rattle.std.specs.Prelude.{◌≡◌, ℕ, ◌+◌, List, [], ◌∷◌, ◌++◌, length, Bool, true, IsTrue, Option, Some, None}
use Rattle.web_disk.specs.View.{View}
use Rattle.page_journal.specs.Records.{newest, format_of}
use Rattle.page_journal.specs.Settled.{bodies_in}
use Rattle.page_journal.specs.declared.journal.Journal.{Journal}
use Rattle.replay_spec.specs.Book.{File}
use Rattle.replay_spec.specs.Rules.{first_file}
use Rattle.book_recovery.specs.JournalSpec.Before.{Made}
use Rattle.book_recovery.specs.JournalSpec.Making.{nothing, made_in, book_of}
use Rattle.book_recovery.specs.JournalSpec.Reading.{AreAllBytes}
use Rattle.book_recovery.specs.SetupReader.Texts.{setup_of_texts}
use Rattle.file_copies.specs.OfFileNotes.declared.notes.FileNotes.{FileNotes}
use Rattle.file_copies.specs.OfFileNotes.Files as noted
use Rattle.file_copies.specs.OfFileNotes.Files.{IsNoted, marks_in}
use Rattle.script_nodes.specs.Setup.{Named}
use Rattle.replay_spec.specs.Book.{renewed}
use Rattle.replay_spec.specs.Change.{with_line}
use Rattle.book_recovery.specs.JournalSpec.Opening.{first_body, renewal_body}
use Rattle.book_recovery.specs.Noting.{marks_of}

-- the file of what records make, and one without records where they make no book
abbrev pub file_in : Option Made → File
file_in None = first_file 0 []
file_in (Some m) = m.book.file

-- the file of a shelf of this number that the records of a journal make
abbrev pub read_file : {D : Type 0} → (D → View) → (number : ℕ) → Journal D → File
read_file view number journal = file_in (made_in (book_of setup_of_texts number (bodies_in view journal)))

-- What is known of a journal's file: which of its records recovery takes; and these are bytes.
pub record KnowsRecords {D : Type 0} (view : D → View) (number : ℕ) (journal : Journal D) (notes : FileNotes) : Type 0 where
  pub marks : marks_in notes ≡ marks_of newest setup_of_texts number 8 (bodies_in view journal) nothing
  pub bytes : AreAllBytes (bodies_in view journal)

-- whatever a crash leaves of the disk is of the newest format
abbrev pub LeavesNewest : View → Type 0
LeavesNewest v = (image : List ℕ) → v.images image → format_of image ≡ newest

-- What a shelf of this number knows of its journal's file, which is of the newest format, also after a crash; where the disk tells its bytes and
-- nothing is in doubt, what is known is of the records there.
pub record KnowsFile {D : Type 0} (view : D → View) (tells : Bool) (number : ℕ) (journal : Journal D) (up : Type 0) (notes : FileNotes) : Type 0 where
  pub newest_is : journal.format ≡ newest
  pub noted : IsNoted notes
  pub images : IsTrue tells → LeavesNewest (view journal.disk)
  pub records : IsTrue tells → up → KnowsRecords view number journal notes

-- what is known of a journal's file that was read, whose records make the file of the book
pub record KnowsRead {D : Type 0} (view : D → View) (number : ℕ) (journal : Journal D) (notes : FileNotes) : Type 0 where
  pub records : KnowsRecords view number journal notes
  pub file : noted.file_in notes ≡ read_file view number journal

-- the file is that of the first record of a shelf of this number alone
pub record NotesBegun (scripts : List Named) (number : ℕ) (notes : FileNotes) : Type 0 where
  pub file : noted.file_in notes ≡ first_file (14 + length (first_body scripts number)) scripts
  pub marks : marks_in notes ≡ []
  pub noted_is : IsNoted notes

-- the file has one record more, of this setup
pub record NotesRenewed (scripts : List Named) (old new : FileNotes) : Type 0 where
  pub file : noted.file_in new ≡ with_line (renewed scripts (length (renewal_body scripts))) (noted.file_in old)
  pub marks : marks_in new ≡ marks_in old ++ true ∷ []
