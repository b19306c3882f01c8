-- What the calls ensure that read records and take one more, by the program's values before them and after them.
use Rattle.std.specs.Prelude.{ℕ, ◌+◌, Bool, true, false, List, Option, Result, map}
use Rattle.std.specs.declared.alloc.AllocError.{AllocError}
use Rattle.script_nodes.specs.Views.{library_of}
use Rattle.script_nodes.specs.declared.library.Library as told
use Rattle.script_nodes.specs.declared.library.ScriptText.{ScriptText}
use Rattle.web_disk.specs.View.{View}
use Rattle.journal_records.specs.Views.{logged_of, script_of}
use Rattle.journal_records.specs.declared.records.Logged.{Logged}
use Rattle.page_journal.specs.Records.{newest}
use Rattle.page_journal.specs.Settled.{bodies_in, length_of}
use Rattle.page_journal.specs.declared.journal.Journal.{Journal}
use Rattle.setup_reader.specs.Texts.{setup_of_texts}
use Rattle.file_notes.specs.declared.notes.FileNotes.{FileNotes}
use Rattle.book_redo.specs.InstanceBook.declared.in_order.InOrder.{InOrder}
use Rattle.book_redo.specs.InstanceBook.declared.book.Book.{Book}
use Rattle.book_redo.specs.JournalSpec.Making.{Making}
use Rattle.book_redo.specs.JournalSpec.Old.{book_of_format, with_body_at}
use Rattle.book_redo.specs.JournalSpec.Owning.{AreOwnIn}
use Rattle.book_redo.specs.Redo.{UnlessTaken}
use Rattle.book_recovery.specs.declared.found.Found.{Found}
use Rattle.book_recovery.specs.declared.found.Found.TheVariants as found
use Rattle.book_recovery.specs.declared.found.ReadBook.{ReadBook}
use Rattle.book_recovery.specs.declared.reader.Reader.{Reader}
use Rattle.book_recovery.specs.Found.{Finds}
use Rattle.book_recovery.specs.Reading.{Gives, GivesWith, IsMadeIn, KeepsOwnWith, NotesTaken, AnewTaken, Renews, found_as, with_found}
use Rattle.book_recovery.specs.Noted.{KeepsRedone, NotesRedone, NotesSetup}
use Rattle.book_recovery.specs.Adopting.{IsLeftAlone, TellsStanding}

-- ---- reading a journal

-- What was read of a journal is what its records make of a shelf of this number.
abbrev pub FindsIn : {D : Type 0} → (D → View) → Journal D → (shelf : ℕ) → ReadBook → Type 0
FindsIn view journal shelf read =
    Finds shelf (length_of journal) read.follows read.found (book_of_format journal.format setup_of_texts shelf (bodies_in view journal))

-- After what was read of a journal one record more can be taken: the same numbers were seen, and its pages have the states that were told.
abbrev pub GivesIn : {D : Type 0} → (D → View) → Journal D → (shelf : ℕ) → ReadBook → Type 0
GivesIn view journal shelf read =
    Gives shelf (length_of journal) read.follows read.alone read.found read.seen (book_of_format journal.format setup_of_texts shelf (bodies_in view journal))

-- The records of a journal of any format are own ones of a shelf of this number.
abbrev pub IsOwnIn : {D : Type 0} → (D → View) → Journal D → (shelf : ℕ) → Type 0
IsOwnIn view journal shelf = AreOwnIn journal.format setup_of_texts shelf (bodies_in view journal)

-- ---- taking one record more

-- A record makes the new book of the old one, by what a reader read before.
abbrev pub IsMadeFor : Reader → told.Library → Logged → (old : Book) → Option Book → Type 0
IsMadeFor r library logged old new = IsMadeIn r.format (library_of library) r.seen (logged_of logged) old new

-- A record whose body is so long has its note, where it makes a book.
abbrev pub NotesFor : told.Library → Book → Logged → (length : ℕ) → (old new : Reader) → Option Book → Type 0
NotesFor library b logged length old new made = NotesRedone (library_of library) b (logged_of logged) length old new made

-- The body that the newest format has of a record is kept, where it makes a book.
abbrev pub KeepsFor : told.Library → Book → Logged → (old new : Reader) → Option Book → Type 0
KeepsFor library b logged old new made = KeepsRedone (library_of library) b (logged_of logged) old new made

-- What a record of these names and texts makes of any book and this library, wherever it stands.
abbrev pub RenewsFor : List ScriptText → (library : told.Library) → Result Bool AllocError → (next : told.Library) → Type 0
RenewsFor texts library result next =
    (place : ℕ) (b : Book) → Renews place b (library_of library) (map script_of texts) (found_as place result b next)

-- A record of these names and texts, whose body is so long, has its note where it is taken.
abbrev pub NotesRenewal : List ScriptText → (length : ℕ) → (old new : Reader) → Result Bool AllocError → (next : told.Library) → Type 0
NotesRenewal texts length old new result next =
    (place : ℕ) (b : Book) → NotesSetup (map script_of texts) length old.notes new.notes (found_as place result b next)

-- Where a book and a library are what the records make, so is what is found with one body more, wherever its gate is.
abbrev pub GivesLater : (old : Reader) → Book → told.Library → (body : List ℕ) → Result Bool AllocError → (new : Reader) → Book → told.Library
    → Type 0
GivesLater old b library body result new made next =
    (place : ℕ) → GivesWith old.format old.shelf place body old.follows old.alone (found.Made b library)
    new.follows false (found_as place result made next) old.seen new.seen

-- After a body whose record is an own one each page still has the state of its chain.
abbrev pub OwnsLater : (old : Reader) → Book → told.Library → (body : List ℕ) → Result Bool AllocError → Book → told.Library → Type 0
OwnsLater old b library body result made next =
    (place : ℕ) → KeepsOwnWith old.format old.seen (found.Made b library) body (found_as place result made next)

-- Where a book and a library are what the records make, what is known of the file is so with one body more.
abbrev pub NotesLater : (old : Reader) → Book → told.Library → (body : List ℕ) → Result Bool AllocError → (new : Reader) → Book → told.Library
    → Type 0
NotesLater old b library body result new made next =
    (place : ℕ) → NotesTaken (with_found old (found.Made b library)) place body (with_found new (found_as place result made next))

-- Where a book and a library are what the records make, the body is kept that the newest format has of one more.
abbrev pub AnewLater : (old : Reader) → Book → told.Library → (body : List ℕ) → Result Bool AllocError → (new : Reader) → Book → told.Library
    → Type 0
AnewLater old b library body result new made next =
    (place : ℕ) → AnewTaken (with_found old (found.Made b library)) place body (with_found new (found_as place result made next))

-- Where there is no record of a setup yet, what is found with one body more is what the records make.
abbrev pub GivesFirst : (old : Reader) → (place : ℕ) → (body : List ℕ) → (new : Reader) → Found → Type 0
GivesFirst old place body new result =
    GivesWith old.format old.shelf place body old.follows old.alone found.Nothing new.follows true result old.seen old.seen

-- ---- a shelf that follows another one's journal

-- Where a shelf that follows is what the records make, so is what is found with one body more, wherever its gate is.
abbrev pub Adopts : (shelf : ℕ) → (alone : Bool) → (body : List ℕ) → Book → told.Library → (before : InOrder (Unit {0})) → Result Bool AllocError
    → Book → told.Library → (after : InOrder (Unit {0})) → Type 0
Adopts shelf alone body b library before result made next after =
    (place : ℕ) → GivesWith newest shelf place body true alone (found.Made b library) true false (found_as place result made next) before after

-- Where a body is not taken, nothing is changed.
abbrev pub LeavesAlone : Result Bool AllocError → (before after : InOrder (Unit {0})) → (old new : Book) → (library next : told.Library)
    → (known then_known : FileNotes) → Type 0
LeavesAlone result before after old new library next known then_known =
    UnlessTaken result (IsLeftAlone before after old new library next known then_known)

-- It is told whether a body stands after what the records make of a shelf that follows.
abbrev pub WouldStand : (shelf : ℕ) → (alone : Bool) → InOrder (Unit {0}) → Book → told.Library → (body : List ℕ) → Result Bool AllocError → Type 0
WouldStand shelf alone seen b library body result =
    (place : ℕ) (m : Making) → Gives shelf (place + 1) true alone (found.Made b library) seen m
    → TellsStanding result (with_body_at newest setup_of_texts shelf place body m)
