-- What is known of a file whose records were read.
use Rattle.std.specs.Prelude.{◌≡◌, ℕ, ◌+◌, Bool, true, false, List, [], ◌∷◌, ◌++◌, length, Option, Some, is_some, ⊤}
use Rattle.journal_records.specs.Records.{Record, changes, renews, promotes}
use Rattle.journal_records.specs.Old.{read_record_in}
use Rattle.book_redo.specs.JournalSpec.Before.{Made}
use Rattle.book_redo.specs.JournalSpec.Making.{Texts, Making, nothing, waits, waited, begun, made}
use Rattle.book_redo.specs.JournalSpec.Old.{book_of_format, told_of, landing_of, with_body_at}
use Rattle.file_notes.specs.declared.notes.FileNotes.{FileNotes}
use Rattle.file_notes.specs.Files.{file_in, marks_in}
use Rattle.book_redo.specs.JournalSpec.Reading.{AreAllBytes}
use Rattle.setup_reader.specs.Texts.{setup_of_texts}
use Rattle.book_recovery.specs.declared.found.Found.{Found}
use Rattle.book_recovery.specs.declared.found.ReadBook.{ReadBook}
use Rattle.book_recovery.specs.declared.found.Found.TheVariants as found

-- whether recovery takes a record of this format after what records make, if it is one that has a note
abbrev pub mark_by : (format : ℕ) → Made → Option Record → List Bool
mark_by format m (Some (changes c state)) = is_some (landing_of format m c (told_of format m c state)) ∷ []
mark_by format m (Some (renews named)) = true ∷ []
mark_by format m (Some promotes) = false ∷ []
mark_by format m _ = []

-- whether recovery takes the record of one more body of a file in this format, if it is one that has a note
abbrev pub mark_in : (format : ℕ) → Making → (body : List ℕ) → List Bool
mark_in format (begun m) body = mark_by format m (read_record_in format body)
mark_in format (made m) body = mark_by format m (read_record_in format body)
mark_in format _ body = []

-- which of the records of these bodies that have a note recovery takes, the gate of the first at this place, after what records make
abbrev pub marks_of : (format : ℕ) → Texts → (shelf place : ℕ) → List (List ℕ) → Making → List Bool
marks_of format texts shelf place [] x = []
marks_of format texts shelf place (body ∷ bodies) x =
    mark_in format x body ++ marks_of format texts shelf (place + 5 + length body) bodies (with_body_at format texts shelf place body x)

-- the file that is known of is that of the book which records make, if they make one; before the record of a setup nothing is known
abbrev pub IsFileOf : FileNotes → Making → Type 0
IsFileOf notes nothing = marks_in notes ≡ []
IsFileOf notes waited = marks_in notes ≡ []
IsFileOf notes (waits shelf) = marks_in notes ≡ []
IsFileOf notes (begun m) = file_in notes ≡ m.book.file
IsFileOf notes (made m) = file_in notes ≡ m.book.file
IsFileOf notes _ = ⊤

-- whatever was found, this holds where it is a book, or where there is no record of a setup yet
abbrev pub WhereMade : Found → Type 0 → Type 0
WhereMade (found.Made b library) holds = holds
WhereMade found.Nothing holds = holds
WhereMade _ holds = ⊤

-- where the file that was known of is that of the book which records make, so it is with one body more, and its mark is after the others
abbrev pub NotesWith : (format shelf place : ℕ) → (body : List ℕ) → (old new : FileNotes) → Found → Making → Type 0
NotesWith format shelf place body old new found m =
    WhereMade found
    (IsFileOf old m → IsFileOf new (with_body_at format setup_of_texts shelf place body m) × (marks_in new ≡ marks_in old ++ mark_in format m body))

-- what is known is of the file whose bodies make this, where they make a book; and these are bytes
pub record NotesFile (format shelf : ℕ) (bodies : List (List ℕ)) (notes : FileNotes) (m : Making) : Type 0 where
  pub file : IsFileOf notes m
  pub marks : marks_in notes ≡ marks_of format setup_of_texts shelf 8 bodies nothing
  pub bytes : AreAllBytes bodies

-- where a book was read, what is known is of the file of these bodies
abbrev pub KnowsFileOf : (format shelf : ℕ) → (bodies : List (List ℕ)) → ReadBook → Type 0
KnowsFileOf format shelf bodies read = WhereMade read.found (NotesFile format shelf bodies read.notes (book_of_format format setup_of_texts shelf bodies))
