-- What a reader of records has made so far.
use Rattle.std.specs.Prelude.{◌≡◌, ◌⊎◌, ◌<◌, ◌≤◌, ℕ, ◌+◌, ◌*◌, ◌==◌, Bool, true, false, List, [], ◌++◌, length, Option, Some, None, Result, Ok, Err, if◌then◌else◌, ⊤}
use Rattle.std.specs.declared.alloc.AllocError.{AllocError}
use Rattle.script_nodes.specs.Setup.{Named, Library}
use Rattle.script_nodes.specs.Views.{scripts_of, library_of}
use Rattle.script_nodes.specs.declared.setup.Setup.{Setup}
use Rattle.script_nodes.specs.declared.library.Library as told
use Rattle.value_bytes.specs.Laws.{AreBytes}
use Rattle.replay_spec.specs.Admission.{is_one}
use Rattle.replay_spec.specs.Recovery as recovery
use Rattle.replay_spec.specs.Recovery.{with_number, is_repeated}
use Rattle.replay_spec.specs.Remade.{IsOrderlyMade}
use Rattle.book_redo.specs.InstanceBook.declared.in_order.InOrder.{InOrder}
use Rattle.book_redo.specs.InstanceBook.declared.book.Book.{Book}
use Rattle.book_redo.specs.InstanceBook.Orders.{numbers_of}
use Rattle.book_redo.specs.InstanceBook.Makes.{count_of, HasPlaces, HasItsStates, HasWhatIsGiven, Reopens}
use Rattle.book_redo.specs.InstanceBook.Swept.{IsEmpty}
use Rattle.book_redo.specs.InstanceBook.Views.{book_of}
use Rattle.book_redo.specs.InstanceBook.Standing.{book_under}
use Rattle.book_redo.specs.Redo.{HasToldStates, counted_to, number_by, IsRedoneBy}
use Rattle.book_redo.specs.MachineStates.Machine.{Suspended}
use Rattle.journal_records.specs.Records.{Record, begins, changes, renews, draws, follows, promotes}
use Rattle.journal_records.specs.Old.{read_record_in}
use Rattle.journal_records.specs.Views.{logged_of}
use Rattle.setup_reader.specs.Texts.{setup_of_texts}
use Rattle.book_redo.specs.JournalSpec.Before.{Earlier, state_at, Made}
use Rattle.book_redo.specs.JournalSpec.Making.{Making, nothing, waits, waited, begun, made, damaged, other, began, has_script}
use Rattle.book_redo.specs.JournalSpec.Old.{with_body_at, book_of_format}
use Rattle.page_journal.specs.Records.{at_rest}
use Rattle.book_redo.specs.JournalSpec.Reading.{AreAllBytes}
use Rattle.book_redo.specs.JournalSpec.Opening.{IsRead}
use Rattle.book_redo.specs.JournalSpec.Whole.{AreWhole}
use Rattle.book_redo.specs.JournalSpec.Owning.{IsOwnRecordIn}
use Rattle.book_redo.specs.declared.renew.Renewed.{Renewed}
use Rattle.book_redo.specs.declared.renew.Renewed.TheVariants as renewed
use Rattle.book_redo.specs.Renewing.{IsRenewed as IsTold}
use Rattle.book_recovery.specs.declared.found.Found.{Found}
use Rattle.book_recovery.specs.declared.found.ReadBook.{ReadBook}
use Rattle.book_recovery.specs.declared.found.Found.TheVariants as found
use Rattle.book_recovery.specs.declared.reader.Reader.{Reader}
use Rattle.file_notes.specs.Files.{IsNoted, StaysAsTold}
use Rattle.book_recovery.specs.Found.{beside_file, HasStates}
use Rattle.book_recovery.specs.Noting.{NotesWith}
use Rattle.book_recovery.specs.Anew.{AnewWith}

-- the numbers that were seen
abbrev pub seen_by : InOrder (Unit {0}) → List ℕ
seen_by seen = numbers_of seen.things.items

-- the book and the numbers seen, as the definitions have what records made
abbrev pub made_under : Library → Book → InOrder (Unit {0}) → recovery.Made
made_under library b seen = record { book = book_under library b; seen = seen_by seen }

-- what records told earlier is of numbers that were seen, and the pages of the book have the states that they told
pub record TellsOf (library : Library) (seen : InOrder (Unit {0})) (b : Book) (earlier : Earlier) : Type 0 where
  pub numbers : (k : ℕ) → is_one k earlier.seen ≡ is_one k (seen_by seen)
  pub known : (n : ℕ) (d : Suspended) → state_at n earlier.states ≡ Some d → is_one n earlier.seen ≡ true
  pub states : HasToldStates library.all earlier.states b

-- the scripts of a library can be run, and its present setup is what its names and texts are read as
pub record IsSoundLibrary (library : Library) : Type 0 where
  pub whole : AreWhole library.all
  pub present : AreWhole library.setup
  pub read : IsRead setup_of_texts library.setup

-- a book that is made: each instance is of one of the scripts, it is orderly and as after a crash, and its pages have states that records
-- told. Where no record was read after the first one, no number was seen.
pub record IsUnderWay (shelf : ℕ) (alone : Bool) (seen : InOrder (Unit {0})) (b : Book) (library : Library) : Type 0 where
  pub placed : HasPlaces library.all b
  pub shelf_is : b.shelf ≡ shelf
  pub orderly : IsOrderlyMade (made_under library b seen)
  pub tells : (earlier : Earlier) × TellsOf library seen b earlier
  pub scripts : IsSoundLibrary library
  pub fresh : alone ≡ true → seen_by seen ≡ []

-- this number, if there is one, is seen from then on, besides those that were
abbrev pub SeesNumber : Option ℕ → (old new : InOrder (Unit {0})) → Type 0
SeesNumber number old new = (k : ℕ) → is_one k (seen_by new) ≡ is_one k (with_number number (seen_by old))

-- the number of a record, if it has one, is seen from then on
abbrev pub Sees : Record → (old new : InOrder (Unit {0})) → Type 0
Sees r old new = SeesNumber (number_by r) old new

-- whether a record that tells no setup may stand after others: a start is of a script of the present setup, and a number stands directly
-- after the first record
abbrev pub may_stand : (alone : Bool) → (scripts : ℕ) → Record → Bool
may_stand alone n (begins shelf named) = false
may_stand alone n (changes c state) = has_script n c
may_stand alone n (renews named) = false
may_stand alone n (draws number) = alone
may_stand alone n follows = false
may_stand alone n promotes = false

-- Whether a record tells there that the shelf follows another one's journal, which is the first record of a file; or that it follows no longer,
-- where it did.
abbrev pub turns : (fed : Bool) → (place : ℕ) → Record → Bool
turns false place follows = place == 8
turns true place promotes = true
turns _ place r = false

-- a book has at most one instance for each five bytes up to a place
abbrev pub HasFew : (place : ℕ) → Found → Type 0
HasFew place (found.Made b library) = 5 * count_of b ≤ place
HasFew place _ = ⊤

-- the new book, if there is one, has at most one instance more
abbrev pub CountsOneMore : (old : Book) → Option Book → Type 0
CountsOneMore old None = ⊤
CountsOneMore old (Some new) = count_of new ≤ count_of old + 1

-- a record whose number was seen before, or was not, makes the new book of the old one, where its state can be read; where it can't be, there is
-- no book
abbrev pub IsMadeAgain : Library → Record → (again : Bool) → (old : Book) → Option Book → Type 0
IsMadeAgain library r again old None = (mid : Book) × IsRedoneBy library r again false old mid
IsMadeAgain library r again old (Some new) = IsRedoneBy library r again true old new

-- a record makes the new book of the old one, by the numbers that were seen
abbrev pub IsMadeOf : Library → InOrder (Unit {0}) → Record → (old : Book) → Option Book → Type 0
IsMadeOf library seen r old o = IsMadeAgain library r (is_repeated (number_by r) (seen_by seen)) old o

-- the book that there is, if a record was taken; none where what the record tells could not be read
abbrev pub book_as : Result Bool AllocError → Book → Result (Option Book) AllocError
book_as (Ok true) b = Ok (Some b)
book_as (Ok false) b = Ok None
book_as (Err e) b = Err e

-- what is found of a book and its library with one record more, whose gate is at this place, if the record was taken
abbrev pub found_as : (place : ℕ) → Result Bool AllocError → Book → told.Library → Found
found_as place (Ok true) b library = found.Made b library
found_as place (Ok false) b library = found.Damaged place
found_as place (Err e) b library = found.Memory

-- a fact that holds unless a book was found
abbrev pub UnlessMade : Found → Type 0 → Type 0
UnlessMade (found.Made b library) holds = ⊤
UnlessMade _ holds = holds

-- a record was found of a setup, or one that may not stand there
abbrev pub IsBegun : Found → Type 0
IsBegun found.Nothing = ⊥
IsBegun _ = ⊤

-- a fact that holds where a record was taken
abbrev pub WhereTaken : Result Bool AllocError → Type 0 → Type 0
WhereTaken (Ok true) holds = holds
WhereTaken (Ok false) holds = ⊤
WhereTaken (Err e) holds = ⊤

-- the record of a change is passed over: its number counts, and the book is as after a crash
abbrev pub IsPassed : Record → (old new : Book) → Type 0
IsPassed r old new = (n : ℕ) × ((number_by r ≡ Some n) × Reopens (counted_to n) old new)

-- what is told of a record in the newest format makes the new book of the old one, if there is a new one
abbrev pub IsMadeBy : Library → InOrder (Unit {0}) → Record → Renewed → (old : Book) → Option Book → Type 0
IsMadeBy library seen r (renewed.Told l) old o = IsMadeOf library seen (logged_of l) old o
IsMadeBy library seen r renewed.Passed old (Some new) = IsPassed r old new
IsMadeBy library seen r renewed.Passed old None = ⊥
IsMadeBy library seen r renewed.Misread old o = o ≡ None

-- a record of this format makes the new book of the old one, where its state can be read; where it can't be, there is no book
abbrev pub IsMadeIn : (format : ℕ) → Library → InOrder (Unit {0}) → Record → (old : Book) → Option Book → Type 0
IsMadeIn format library seen r old o = (x : Renewed) × (IsTold format library old r x × IsMadeBy library seen r x old o)

-- the first record stands alone, or others stand after it
abbrev pub making_of : (alone : Bool) → Made → Making
making_of alone m = if alone then begun m else made m

-- The records make this book under this library, where the journal is this long and tells so whether the shelf follows another one's: the same
-- numbers were seen, and its pages have the states that were told. The record of a setup alone makes an empty book.
pub record IsMadeAs (shelf length : ℕ) (fed alone : Bool) (b : Book) (library : Library) (seen : InOrder (Unit {0})) (m : Making) : Type 0 where
  pub whole : Made
  pub is : m ≡ making_of alone whole
  pub book : whole.book ≡ book_of library (beside_file fed length whole.book.file) b
  pub tells : TellsOf library seen b whole.earlier
  pub first : alone ≡ true → (place n : ℕ) × (whole ≡ began fed shelf place n library.setup)

-- how long a journal without the record of a setup is: 9 bytes, and 6 more for each record that tells whether the shelf follows
abbrev pub IsBefore : (fed : Bool) → (shelf length : ℕ) → Making → Type 0
IsBefore true shelf n m = (m ≡ waits shelf) × (n ≡ 15)
IsBefore false shelf n m = ((m ≡ nothing) × (n ≡ 9)) ⊎ ((m ≡ waited) × (n ≡ 21))

-- before the record of a setup no number was seen
pub record IsNothing (shelf length : ℕ) (fed : Bool) (seen : InOrder (Unit {0})) (m : Making) : Type 0 where
  pub before : IsBefore fed shelf length m
  pub none : seen_by seen ≡ []

-- What was found so far is what the records make, where the journal is this long and tells so whether the shelf follows another one's. Once
-- there was no memory, nothing is told.
abbrev pub Gives : (shelf length : ℕ) → (fed alone : Bool) → Found → InOrder (Unit {0}) → Making → Type 0
Gives shelf length fed alone found.Nothing seen m = IsNothing shelf length fed seen m
Gives shelf length fed alone (found.Made b library) seen m = IsMadeAs shelf length fed alone b (library_of library) seen m
Gives shelf length fed alone (found.Damaged place) seen m = m ≡ damaged place
Gives shelf length fed alone (found.Other place) seen m = m ≡ other place
Gives shelf length fed alone found.Memory seen m = ⊤

-- Some bodies, which are bytes, make what was read: where the disk tells them, its own.
pub record ReadsSome (format shelf : ℕ) (read : ReadBook) : Type 0 where
  pub bodies : List (List ℕ)
  pub bytes : AreAllBytes bodies
  pub gives : Gives shelf (length (at_rest bodies)) read.follows read.alone read.found read.seen (book_of_format format setup_of_texts shelf bodies)

-- where what was found before is what the records make, so is what is found with one body more, after the gate at this place
abbrev pub GivesWith : (format shelf place : ℕ) → List ℕ → (fed alone : Bool) → (old : Found) → (then_fed then_alone : Bool) → (new : Found) → (before after : InOrder (Unit {0})) → Type 0
GivesWith format shelf place body fed alone old then_fed then_alone new before after =
    (m : Making) → Gives shelf (place + 1) fed alone old before m
    → Gives shelf (place + 5 + length body + 1) then_fed then_alone new after (with_body_at format setup_of_texts shelf place body m)

-- a book that was found is under way; where nothing was found, no number was seen
abbrev pub IsKept : (shelf : ℕ) → (alone : Bool) → InOrder (Unit {0}) → Found → Type 0
IsKept shelf alone seen found.Nothing = seen_by seen ≡ []
IsKept shelf alone seen (found.Made b library) = IsUnderWay shelf alone seen b (library_of library)
IsKept shelf alone seen _ = ⊤

-- What a reader made so far is under way. In format 1, whose states are made by the scripts, each page has the state of its chain.
pub record IsSoundReader (r : Reader) : Type 0 where
  pub kept : IsKept r.shelf r.alone r.seen r.found
  pub known : 0 < r.format
  pub own : r.format ≡ 1 → HasStates r.found
  pub noted : IsNoted r.notes

-- the record of this format is an own one of the book, after what records told earlier
abbrev pub IsOwnBehind : (format : ℕ) → Library → InOrder (Unit {0}) → Book → Option Record → Type 0
IsOwnBehind format library seen b r =
    (earlier : Earlier) × (TellsOf library seen b earlier × IsOwnRecordIn format (record { book = book_under library b; earlier = earlier }) r)

-- the record of a body is an own one of the book that was made, if one was
abbrev pub IsOwnFor : (format : ℕ) → InOrder (Unit {0}) → Found → (body : List ℕ) → Type 0
IsOwnFor format seen (found.Made b library) body = IsOwnBehind format (library_of library) seen b (read_record_in format body)
IsOwnFor format seen _ body = ⊤

-- after a body whose record is an own one, where each page of the book has the state of its chain, so has each of the book that is found
abbrev pub KeepsOwnWith : (format : ℕ) → InOrder (Unit {0}) → (old : Found) → (body : List ℕ) → (new : Found) → Type 0
KeepsOwnWith format seen old body new = IsOwnFor format seen old body → HasStates old → HasStates new

-- where what was found and known before is what the records make, so is what is known with one body more
abbrev pub NotesTaken : (old : Reader) → (place : ℕ) → (body : List ℕ) → (new : Reader) → Type 0
NotesTaken old place body new =
    (m : Making) → Gives old.shelf (place + 1) old.follows old.alone old.found old.seen m → NotesWith old.format old.shelf place body old.notes new.notes new.found m

-- where what was found before is what the records make, the body is kept that the newest format has of one more
abbrev pub AnewTaken : (old : Reader) → (place : ℕ) → (body : List ℕ) → (new : Reader) → Type 0
AnewTaken old place body new =
    (m : Making) → Gives old.shelf (place + 1) old.follows old.alone old.found old.seen m → AnewWith old.format body old.anew new.anew new.found m

-- a reader that found this
abbrev pub with_found : Reader → Found → Reader
with_found r f = record r { found = f }

-- a reader for the shelf of this number
abbrev pub with_shelf : ℕ → Reader → Reader
with_shelf n r = record r { shelf = n }

-- a reader takes one body more, which is bytes
pub record IsTaken (old : Reader) (place : ℕ) (body : List ℕ) (new : Reader) : Type 0 where
  pub shelf : new.shelf ≡ old.shelf
  pub format : new.format ≡ old.format
  pub bytes : AreBytes body
  pub gives : GivesWith old.format old.shelf place body old.follows old.alone old.found new.follows new.alone new.found old.seen new.seen
  pub owns : KeepsOwnWith old.format old.seen old.found body new.found
  pub notes : NotesTaken old place body new
  pub anew : AnewTaken old place body new

-- a reader for the same shelf and format
pub record IsSameFile (old new : Reader) : Type 0 where
  pub shelf : new.shelf ≡ old.shelf
  pub format : new.format ≡ old.format

-- a reader for the same shelf and format, after as many records
pub record IsSameReader (old new : Reader) : Type 0 where
  pub shelf : new.shelf ≡ old.shelf
  pub format : new.format ≡ old.format
  pub follows : new.follows ≡ old.follows
  pub alone : new.alone ≡ old.alone
  pub found : new.found ≡ old.found

-- a reader has seen the same numbers, and knows the same of the file
pub record TakesNothing (old new : Reader) : Type 0 where
  pub follows : new.follows ≡ old.follows
  pub seen : seen_by new.seen ≡ seen_by old.seen
  pub notes : StaysAsTold old.notes new.notes

-- the setup is what names and texts are read as, and each of its scripts can be run
pub record IsSetupOf (texts : List (List ℕ × List ℕ)) (setup : Setup) : Type 0 where
  pub read : setup_of_texts texts ≡ Some (scripts_of setup)
  pub whole : AreWhole (scripts_of setup)

-- The library has one setup more, the present one, which is what these names and texts are read as, and whose scripts can be run.
pub record IsRenewed (texts : List (List ℕ × List ℕ)) (old new : Library) : Type 0 where
  pub read : setup_of_texts texts ≡ Some new.setup
  pub all : new.all ≡ old.all ++ new.setup
  pub whole : AreWhole new.setup

-- what a record of these names and texts makes of the book: it stays, under the renewed library; damage where they are no setup
abbrev pub Renews : (place : ℕ) → Book → Library → (texts : List (List ℕ × List ℕ)) → Found → Type 0
Renews place b library texts (found.Made c renewed) = (c ≡ b) × IsRenewed texts library (library_of renewed)
Renews place b library texts (found.Damaged p) = (p ≡ place) × (setup_of_texts texts ≡ None)
Renews place b library texts found.Memory = ⊤
Renews place b library texts _ = ⊥

-- The book is an empty one, under the library of the setup that these names and texts are read as, and whose scripts can be run.
pub record IsFirst (shelf : ℕ) (texts : List (List ℕ × List ℕ)) (b : Book) (library : Library) : Type 0 where
  pub empty : IsEmpty shelf b
  pub placed : (all : List Named) → HasPlaces all b
  pub states : (all : List Named) → HasItsStates all b
  pub told : HasWhatIsGiven b
  pub read : setup_of_texts texts ≡ Some library.setup
  pub all : library.all ≡ library.setup
  pub whole : AreWhole library.setup

-- what the record of the first setup, of this shelf number and of these names and texts, makes for the shelf of that number
abbrev pub Begins : (shelf place number : ℕ) → (texts : List (List ℕ × List ℕ)) → Found → Type 0
Begins shelf place number texts (found.Made b library) =
    (number ≡ shelf) × IsFirst shelf texts b (library_of library)
Begins shelf place number texts (found.Damaged p) = (p ≡ place) × (setup_of_texts texts ≡ None)
Begins shelf place number texts (found.Other p) =
    (p ≡ place) × ((number ≡ shelf → ⊥) × ((scripts : List Named) × (setup_of_texts texts ≡ Some scripts)))
Begins shelf place number texts found.Memory = ⊤
Begins shelf place number texts found.Nothing = ⊥
