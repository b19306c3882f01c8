-- What opening a shelf finds.
use Rattle.std.specs.Prelude.{◌≡◌, ◌≢◌, ◌⊎◌, ◌≤◌, ◌^◌, ℕ, Bool, false, List, [], ◌∷◌, ◌++◌, length, Option, Some, None, Result, Ok, Err, IfOk, IfSome, OnOk, IsErrOf, is_ok, IsTrue, ⊤}
use Rattle.script_nodes.specs.Setup.{Named}
use Rattle.script_nodes.specs.Setup as spec
use Rattle.script_nodes.specs.Views.{library_of}
use Rattle.script_nodes.specs.declared.library.Library.{Library}
use Rattle.book_recovery.specs.SetupReader.Texts.{setup_of_texts, IsReadSetup}
use Rattle.web_outside.specs.Causes.{Rose}
use Rattle.web_disk.specs.View.{View, AreAmong, Only, NoNewImage, LeavesOnly}
use Rattle.value_bytes.specs.Laws.{AreBytes}
use Rattle.page_journal.specs.Calls.{HasAppended}
use Rattle.page_journal.specs.Holding.{MayHold}
use Rattle.page_journal.specs.Opened.{IsIntactOrEmpty, TellsFormat}
use Rattle.page_journal.specs.Records as log
use Rattle.page_journal.specs.Records.{Log, newest, records, format_of, at_rest_in, at_rest, stored}
use Rattle.page_journal.specs.Scanned.{IsQuiet}
use Rattle.page_journal.specs.Settled.{HasFailed, IsSettled, view_of, bodies_in, length_of, length_with}
use Rattle.page_journal.specs.declared.journal.Journal.{Journal}
use Rattle.replay_spec.specs.Book.{Book, File, reopened}
use Rattle.replay_spec.specs.Invariant.{IsOrderly, IsSound}
use Rattle.replay_spec.specs.Rules.{Rules}
use Rattle.replay_spec.specs.Step.{crash, Fate, lost, kept, live, step}
use Rattle.book_recovery.specs.JournalSpec.Before.{Made}
use Rattle.book_recovery.specs.JournalSpec.Keeping.{AreOver}
use Rattle.book_recovery.specs.JournalSpec.Making.{Making, nothing, waits, waited, begun, made, damaged, other, made_in, book_of}
use Rattle.book_recovery.specs.JournalSpec.Bytes.{book_in_bytes}
use Rattle.book_recovery.specs.JournalSpec.Opening as opening
use Rattle.book_recovery.specs.JournalSpec.Opening.{first_body, opened_book, opened_on}
use Rattle.book_recovery.specs.JournalSpec.Spelling.{IsInRange}
use Rattle.book_recovery.specs.JournalSpec.Whole.{HasWholeScripts}
use Rattle.book_recovery.specs.JournalSpec.Disks.{IsFit}
use Rattle.book_recovery.specs.JournalSpec.Owning.{AreOwn}
use Rattle.book_recovery.specs.JournalSpec.Standing.{IsMadeBook, Between, Held, HoldIn, HeldOpened, HoldsOpening, Stands, ThroughoutFrom, OpensThroughout, IsOneOf}
use Rattle.book_recovery.specs.InstanceBook.declared.book.Book.{Book as RustBook}
use Rattle.book_recovery.specs.InstanceBook.Views as views
use Rattle.book_recovery.specs.InstanceBook.Makes.{HasPlaces, HasSomeStates, HasItsStates}
use Rattle.book_visits.specs.Admissions.{HasFew}
use Rattle.book_recovery.specs.Found.{beside_file, FindsBook, IsReopened}
use Rattle.shelf.specs.Fed.{IsFedAs, IsFedBy, IsFedSome}
use Rattle.shelf.specs.declared.follower.Follower.{Follower}
use Rattle.shelf.specs.Files.{read_file}
use Rattle.shelf.specs.Owning.{HasOwnImages, StaysOwnThroughout, StandsMeasured}
use Rattle.shelf.specs.Migrating.{making_now, bodies_now, IsTooLongAnew}
use Rattle.shelf.specs.Faults.{IsReadFaultOf, IsReadFault, IsTooLong}
use Rattle.shelf.specs.Views.{TellsStates, IsOwnShelf, library_in, follows_in, book_in}
use Rattle.shelf.specs.declared.begin.BeginFault.{BeginFault}
use Rattle.shelf.specs.declared.begin.BeginFault.TheVariants as fault
use Rattle.shelf.specs.declared.shelf.Shelf.{Shelf}

-- what the records of a journal make of a shelf
abbrev pub making_of : {D : Type 0} → (D → View) → (shelf : ℕ) → Journal D → Making
making_of view shelf journal = book_of setup_of_texts shelf (bodies_in view journal)

-- what the bytes of a disk make of a shelf
abbrev pub making_on : (shelf : ℕ) → View → Making
making_on shelf v = book_in_bytes setup_of_texts shelf v.seen

-- what an opening goes on with makes of a shelf, of records in this format
abbrev pub now_by_log : (format shelf : ℕ) → Log → Making
now_by_log format shelf (log.Damaged place) = damaged place
now_by_log format shelf (log.Intact bodies) = making_now format shelf bodies

-- what an opening on these bytes goes on with makes of a shelf: of an older format the records that stay, in the newest
abbrev pub now_in_bytes : (shelf : ℕ) → List ℕ → Making
now_in_bytes shelf [] = nothing
now_in_bytes shelf (b ∷ bytes) = now_by_log (format_of (b ∷ bytes)) shelf (records (b ∷ bytes))

-- what the bytes of a disk make, where the shelf is opened on them
abbrev pub making_after : (shelf : ℕ) → View → Making
making_after shelf v = now_in_bytes shelf v.seen

-- the bodies that an opening on these bytes goes on with
abbrev pub bodies_after : (shelf : ℕ) → List ℕ → List (List ℕ)
bodies_after shelf bytes = bodies_now (format_of bytes) shelf (stored bytes)

-- the bytes of a disk are of the newest format, if there are any
abbrev pub IsOfNow : View → Type 0
IsOfNow v = TellsFormat v.seen newest

-- a journal has room for what stays of these bytes
abbrev pub HasRoomFor : (shelf : ℕ) → List ℕ → Type 0
HasRoomFor shelf bytes = length (at_rest (bodies_after shelf bytes)) ≤ 2 ^ 30

-- a journal has room for what stays of these bytes; one that goes on with this setup would have this length, which is longer than one may be
pub record IsTooLongBehind (scripts : List Named) (shelf : ℕ) (bytes : List ℕ) (n : ℕ) : Type 0 where
  pub fits : HasRoomFor shelf bytes
  pub setup : IsTooLong scripts shelf (now_in_bytes shelf bytes) n

-- a journal of what stays of these bytes would have this length, or one that goes on with this setup, which is longer than one may be
abbrev pub IsTooLongIn : List Named → (shelf : ℕ) → List ℕ → (length : ℕ) → Type 0
IsTooLongIn scripts shelf bytes n = IsTooLongAnew (format_of bytes) shelf (stored bytes) n ⊎ IsTooLongBehind scripts shelf bytes n

-- the fault is why the bytes of the disk make no shelf of this setup, unless the outside failed
abbrev pub IsFaultOf : List Named → (shelf : ℕ) → View → BeginFault → Type 0
IsFaultOf scripts shelf old (fault.Full n) = IsTooLongIn scripts shelf old.seen n
IsFaultOf scripts shelf old e = IsReadFaultOf scripts shelf (making_on shelf old) e

-- a fault that is answered is why the bytes of the disk make no shelf of this setup, unless the outside failed
abbrev pub IsFault : {T : Type 0} → List Named → (shelf : ℕ) → View → Result T BeginFault → Type 0
IsFault scripts shelf old (Ok x) = ⊤
IsFault scripts shelf old (Err e) = IsFaultOf scripts shelf old e

-- the bodies that an opening with this setup adds to records that make this: the one that a journal begins with, where there is none; and that
-- of the setup, where it has other names or texts than the last one that was told. A shelf that follows another one's journal adds none.
abbrev pub opening_bodies : List Named → (shelf : ℕ) → Making → List (List ℕ)
opening_bodies scripts shelf nothing = first_body scripts shelf ∷ []
opening_bodies scripts shelf waited = first_body scripts shelf ∷ []
opening_bodies scripts shelf (waits s) = []
opening_bodies scripts shelf (begun m) = opening.opening_bodies scripts m.book
opening_bodies scripts shelf (made m) = opening.opening_bodies scripts m.book
opening_bodies scripts shelf (damaged place) = []
opening_bodies scripts shelf (other place) = []

-- the bodies that an opening added, which adds none where it fails
abbrev pub added_by : {T : Type 0} → List Named → (shelf : ℕ) → Making → Result T BeginFault → List (List ℕ)
added_by scripts shelf m (Ok x) = opening_bodies scripts shelf m
added_by scripts shelf m (Err e) = []

-- ---- of the journal

-- the book of these scripts beside a journal from which it was read, with nothing in doubt, on a shelf that follows or does not
abbrev pub opened_beside : {D : Type 0} → (D → View) → (shelf : ℕ) → (fed : Bool) → Journal D → Library → RustBook → Book
opened_beside view shelf fed journal library b =
    views.book_of (library_of library) (record { length = length_of journal; file = read_file view shelf journal; down = None; follows = fed }) b

-- the book was made of the records of the journal, under this library, on a shelf that does not follow
abbrev pub WasFound : {D : Type 0} → (D → View) → (shelf : ℕ) → Journal D → RustBook → spec.Library → Type 0
WasFound view shelf journal b library = FindsBook shelf (length_of journal) false b library (making_of view shelf journal)

-- the records of a journal are own ones
abbrev pub HasOwnRecords : {D : Type 0} → (D → View) → (shelf : ℕ) → Journal D → Type 0
HasOwnRecords view shelf journal = AreOwn setup_of_texts shelf (bodies_in view journal)

-- after an opening the records of the journal are own ones, and each page of the book has the state of its chain
pub record OpensOwn {D : Type 0} (view : D → View) (shelf : ℕ) (journal : Journal D) (o : RustBook × Library) : Type 0 where
  pub records : HasOwnRecords view shelf journal
  pub states : HasItsStates (library_of o.1).all o.0

-- whatever a crash leaves of the disk at a moment of a call on its journal holds own records
abbrev pub LeavesOwnRecords : {D : Type 0} → (D → View) → (shelf : ℕ) → (old new : Journal D) → Type 0
LeavesOwnRecords view shelf old new = StaysOwnThroughout shelf (view_of view old) (view_of view new)

-- where a fault of the disk is told, one of its calls has failed
abbrev pub TellsFailure : {D T : Type 0} → (D → View) → (old new : Journal D) → Result T BeginFault → Type 0
TellsFailure view old new result = IsErrOf result fault.DiskFault → HasFailed (view_of view old) (view_of view new)

-- what is read of a disk is as it was, and a crash leaves nothing that it might not have left
abbrev pub IsUntouched : View → View → Type 0
IsUntouched old new = (new.seen ≡ old.seen) × NoNewImage old new

-- nothing but a fault of the disk, or want of memory, is told in place of what was asked for
abbrev pub IsDoneUnlessOutside : {T : Type 0} → Result T BeginFault → Type 0
IsDoneUnlessOutside result = IsErrOf result fault.DiskFault ⊎ (IsErrOf result fault.Memory ⊎ IsTrue (is_ok result))

-- A settled journal gets this body after its records; a crash at any moment leaves those, with it or without it. Where it is not added, the
-- disk failed, or there was no memory and nothing was written.
pub record TellsSetup {D T : Type 0} (view : D → View) (tells : Bool) (old new : Journal D) (body : List ℕ) (result : Result T BeginFault) : Type 0 where
  pub added : IsTrue tells → OnOk result (HasAppended view old body new)
  pub len : OnOk result (length_of new ≡ length_with old body)
  pub bytes : OnOk result (AreBytes body)
  pub moments : IsTrue tells → LeavesOnly (view_of view old) (view_of view new) (MayHold newest (bodies_in view old) body)
  pub refused : IsDoneUnlessOutside result
  pub untouched : IsErrOf result fault.Memory → IsUntouched (view_of view old) (view_of view new)
  pub cause : TellsFailure view old new result
  pub later : (view_of view old).faults ≤ (view_of view new).faults

-- that there is no room for this body is told, with the length that the journal would have, and nothing was done
pub record TellsFull {D T : Type 0} (old new : Journal D) (body : List ℕ) (result : Result T BeginFault) : Type 0 where
  pub journal : new ≡ old
  pub told : IsErrOf result (fault.Full (length_with old body))

-- these are the scripts that were told, and after them those of this setup, which is the present one
pub record IsLibraryOf (earlier scripts : List Named) (library : Library) : Type 0 where
  pub all : (library_of library).all ≡ earlier ++ scripts
  pub setup : (library_of library).setup ≡ scripts

-- the book is the one that a shelf goes on with on these records, with this setup
abbrev pub IsMadeOf : {D : Type 0} → (D → View) → List Named → (shelf : ℕ) → (fed : Bool) → (old new : Journal D) → RustBook × Library → Type 0
IsMadeOf view scripts shelf fed old new o =
    IsMadeBook (opened_on shelf scripts (making_of view shelf old)) (opened_beside view shelf fed new o.1 o.0)

-- the journal can go on with this book
abbrev pub CanGoOnWith : {D : Type 0} → (D → View) → (shelf : ℕ) → (fed : Bool) → Journal D → RustBook × Library → Type 0
CanGoOnWith view shelf fed journal o = IsFit view setup_of_texts shelf journal (opened_beside view shelf fed journal o.1 o.0)

-- A book that a shelf of this number can go on with under this library, whatever the records were. Where the shelf does not follow, the present
-- setup is what its names and texts are read as.
pub record IsOpenedBook (shelf : ℕ) (fed : Bool) (b : RustBook) (library : spec.Library) : Type 0 where
  pub placed : HasPlaces library.all b
  pub kept : HasSomeStates library.all b
  pub shelf_is : b.shelf ≡ shelf
  pub read : fed ≡ false → IsReadSetup library.setup
  pub few : HasFew library
  pub orderly : (length : ℕ) (file : File) → IsOrderly (views.book_of library (beside_file fed length file) b)
  pub whole : (length : ℕ) (file : File) → HasWholeScripts (views.book_of library (beside_file fed length file) b)
  pub range : (length : ℕ) (file : File) → IsInRange (views.book_of library (beside_file fed length file) b)
  pub again : (length : ℕ) (file : File) → IsReopened (views.book_of library (beside_file fed length file) b)

-- what a shelf keeps that was opened and follows is what the records of its journal fed it
pub record IsFollowerOf {D : Type 0} (view : D → View) (tells : Bool) (shelf : ℕ) (journal : Journal D) (o : RustBook × Library) (f : Follower) : Type 0 where
  pub standing : f.fallen ≡ None
  pub fed : IsFedAs f.fed shelf f.seen o.0 (library_of o.1)
  pub made : IsFedSome f.fed shelf f.seen o.0 (library_of o.1)
  pub told : IsTrue tells → IsFedBy f.fed shelf f.seen o.0 (library_of o.1) (making_of view shelf journal)

-- a shelf that was opened and follows keeps what the records of its journal fed it
abbrev pub IsFollowedBy : {D : Type 0} → (D → View) → Bool → (shelf : ℕ) → Journal D → Option Follower → Result (RustBook × Library) BeginFault → Type 0
IsFollowedBy view tells shelf journal o result = IfOk result (λ x. IfSome o (IsFollowerOf view tells shelf journal x))

-- the pages of the book have the states that the records of the journal told
abbrev pub HasStatesTold : {D : Type 0} → (D → View) → (shelf : ℕ) → Journal D → RustBook × Library → Type 0
HasStatesTold view shelf journal o = TellsStates view (library_of o.1).all shelf journal o.0

-- where no book was made, the records told why
abbrev pub TellsReadFault : {D T : Type 0} → (D → View) → List Named → (shelf : ℕ) → Journal D → Result T BeginFault → Type 0
TellsReadFault view scripts shelf old result = IsReadFault scripts shelf (making_of view shelf old) result

-- the records made a book, and a crash at any moment of a call leaves what makes it, of these records, or it with this setup
pub record Renews {D : Type 0} (view : D → View) (scripts : List Named) (shelf : ℕ) (old new : Journal D) : Type 0 where
  pub made : Made
  pub found : made_in (making_of view shelf old) ≡ Some made
  pub moments : ThroughoutFrom (bodies_in view old) setup_of_texts shelf made.book (opened_book shelf scripts made.book) (view_of view old) (view_of view new)

-- where there were records of the shelf, nothing was written but the setup
abbrev pub IsReadOrRenewed : {D : Type 0} → (D → View) → List Named → (shelf : ℕ) → (old new : Journal D) → Type 0
IsReadOrRenewed view scripts shelf old new =
    making_of view shelf old ≢ nothing → making_of view shelf old ≢ waited → IsQuiet (view_of view old) (view_of view new) ⊎ Renews view scripts shelf old new

-- these records of this format and a closed gate after them are the whole of a disk, also after a crash
abbrev pub HoldsAtRest : (format : ℕ) → List (List ℕ) → View → Type 0
HoldsAtRest f bodies v = (v.seen ≡ at_rest_in f bodies) × Only v.seen v

-- the disk holds the records that were read of it, in their format
abbrev pub HoldsAsRead : View → View → Type 0
HoldsAsRead old new = (f : ℕ) × (TellsFormat old.seen f × HoldsAtRest f (stored old.seen) new)

-- A disk on which nothing was lost in an opening that added these bodies: it is as it was, or holds the records that were read of it, where
-- there are none; or it holds these records, of an older format those that stay, and the bodies after them.
abbrev pub KeepsRecords : (shelf : ℕ) → (more : List (List ℕ)) → View → View → Type 0
KeepsRecords shelf more old new =
    ((more ≡ []) × IsUntouched old new)
    ⊎ (IsIntactOrEmpty old × (HoldsAtRest newest (bodies_after shelf old.seen ++ more) new ⊎ ((more ≡ []) × HoldsAsRead old new)))

-- the disk of a journal is as it was, where no bodies were added, or has these after its records
abbrev pub HasAdded : {D : Type 0} → (D → View) → (more : List (List ℕ)) → (old new : Journal D) → Type 0
HasAdded view more old new =
    ((more ≡ []) × IsUntouched (view_of view old) (view_of view new))
    ⊎ (IsSettled view new × (bodies_in view new ≡ bodies_in view old ++ more))

-- unless a fault of the disk is told, the disk is as it was but for the bodies that the opening added
abbrev pub KeepsUnlessFailed : {D T : Type 0} → (D → View) → List Named → (shelf : ℕ) → (old new : Journal D) → Result T BeginFault → Type 0
KeepsUnlessFailed view scripts shelf old new result =
    (IsErrOf result fault.DiskFault → ⊥) → HasAdded view (added_by scripts shelf (making_of view shelf old) result) old new

-- what is made of a journal is a book, which can go on, with this setup, or it is told why it is not; nothing is written but the setup, and that
-- not where the shelf follows
pub record Opens {D : Type 0} (view : D → View) (tells : Bool) (scripts : List Named) (shelf : ℕ) (fed : Bool) (old new : Journal D) (result : Result (RustBook × Library) BeginFault) : Type 0 where
  pub begun : IsTrue tells → IfOk result (IsMadeOf view scripts shelf fed old new)
  pub fit : IsTrue tells → IfOk result (CanGoOnWith view shelf fed new)
  pub told : IsTrue tells → IfOk result (HasStatesTold view shelf new)
  pub in_order : IfOk result (λ o. IsOpenedBook shelf fed o.0 (library_of o.1))
  pub setup : fed ≡ false → IfOk result (λ o. (library_of o.1).setup ≡ scripts)
  pub own_moments : IsTrue tells → HasOwnRecords view shelf old → LeavesOwnRecords view shelf old new
  pub refused : IsTrue tells → TellsReadFault view scripts shelf old result
  pub quiet : IsTrue tells → IsReadOrRenewed view scripts shelf old new
  pub keeps : IsTrue tells → KeepsUnlessFailed view scripts shelf old new result
  pub cause : TellsFailure view old new result
  pub later : (view_of view old).faults ≤ (view_of view new).faults

-- what was asked for, with this book and these scripts
abbrev pub with_book : RustBook → Library → Result (Unit {0}) BeginFault → Result (RustBook × Library) BeginFault
with_book b library (Ok x) = Ok (b, library)
with_book b library (Err e) = Err e

-- ---- of the shelf

-- the answer of an opening without the shelf, the disk and the nonces
abbrev pub fault_of : {D N : Type 0} → Result (Shelf D N) (BeginFault × D × N) → Result (Unit {0}) BeginFault
fault_of (Ok shelf) = Ok tt
fault_of (Err (e, disk, nonces)) = Err e

-- the disk of the shelf that was opened, or the one that is handed back
abbrev pub disk_of : {D N : Type 0} → Result (Shelf D N) (BeginFault × D × N) → D
disk_of (Ok shelf) = shelf.journal.disk
disk_of (Err (e, disk, nonces)) = disk

-- the nonces of the shelf that was opened, or those that are handed back
abbrev pub nonces_of : {D N : Type 0} → Result (Shelf D N) (BeginFault × D × N) → N
nonces_of (Ok shelf) = shelf.nonces
nonces_of (Err (e, disk, nonces)) = nonces

-- the book is the one that a shelf goes on with on the bytes of the disk, with this setup
abbrev pub MakesBook : List Named → (shelf : ℕ) → View → Book → Type 0
MakesBook scripts shelf old b = IsMadeBook (opened_on shelf scripts (making_after shelf old)) b

-- the book of the shelf that was opened is the one that a shelf goes on with on the bytes of the disk, with this setup
abbrev pub MakesShelf : {D N : Type 0} → (D → View) → List Named → (shelf : ℕ) → D → Result (Shelf D N) (BeginFault × D × N) → Type 0
MakesShelf view scripts shelf disk result = IfOk result (λ s. MakesBook scripts shelf (view disk) (book_in view s))

-- the book of a shelf that was opened is as after a crash, and its setup is this one, unless it follows another one's journal
pub record IsOpenedAnew {D N : Type 0} (view : D → View) (scripts : List Named) (s : Shelf D N) : Type 0 where
  pub again : IsReopened (book_in view s)
  pub setup : follows_in s ≡ false → (library_in s).setup ≡ scripts

-- the book of the shelf that was opened is one of the two between which the disk stood, with this setup
abbrev pub OpensOneOf : {D N : Type 0} → (D → View) → List Named → (shelf : ℕ) → D → Result (Shelf D N) (BeginFault × D × N) → Type 0
OpensOneOf view scripts shelf disk result = IfOk result (λ s. IsOneOf setup_of_texts shelf scripts (view disk) (book_in view s))

-- whatever two books the disk stood between, a crash at any moment of the opening leaves it there, or one of the two with this setup
abbrev pub StandsThroughout : {D N : Type 0} → (D → View) → List Named → (shelf : ℕ) → D → Result (Shelf D N) (BeginFault × D × N) → Type 0
StandsThroughout view scripts shelf disk result = OpensThroughout setup_of_texts shelf scripts (view disk) (view (disk_of result))

-- a book with another file, which begins with the same setup and tells the next number, and no shelf that follows
pub record IsRenewedAs (b c : Book) : Type 0 where
  pub book : c ≡ record b { length = c.length; file = c.file; follows = false }
  pub first : c.file.scripts ≡ b.file.scripts
  pub drawn : c.file.drawn ≡ Some b.logged

-- bytes may hold what makes the book, or what makes it with a file of the newest format, with this setup or without it
abbrev pub HoldsAnew : (shelf : ℕ) → List Named → Book → List ℕ → Type 0
HoldsAnew shelf scripts b bytes =
    (c : Book) × (IsRenewedAs (reopened b) c
    × (((l : Between setup_of_texts shelf b c) × Held l bytes) ⊎ HoldsOpening setup_of_texts shelf scripts c bytes))

-- whatever two books the disk stood between, a crash at any moment of an opening leaves it there, or one of the two with this setup, or one
-- of these with a file of the newest format
abbrev pub OpensOrMigrates : (shelf : ℕ) → List Named → View → View → Type 0
OpensOrMigrates shelf scripts old new =
    (before after : Book) (k : Between setup_of_texts shelf before after) → HoldIn k old.images
    → LeavesOnly old new (λ bytes. HeldOpened k scripts bytes ⊎ (HoldsAnew shelf scripts before bytes ⊎ HoldsAnew shelf scripts after bytes))

-- a crash at any moment of an opening leaves a book that stood there, or the opened one, each perhaps in a file of the newest
-- format
abbrev pub MigratesThroughout : {D N : Type 0} → (D → View) → List Named → (shelf : ℕ) → D → Result (Shelf D N) (BeginFault × D × N) → Type 0
MigratesThroughout view scripts shelf disk result = OpensOrMigrates shelf scripts (view disk) (view (disk_of result))

-- where what a crash leaves of the disk holds own records, so does what it leaves at any moment of the opening
abbrev pub LeavesOwn : {D N : Type 0} → (D → View) → (shelf : ℕ) → D → Result (Shelf D N) (BeginFault × D × N) → Type 0
LeavesOwn view shelf disk result = HasOwnImages shelf (view disk) → StaysOwnThroughout shelf (view disk) (view (disk_of result))

-- On a disk that tells no bytes, a shelf whose book has no instance is an own one: so is one on a file that was just made.
abbrev pub OpensOwnIfEmpty : {D N : Type 0} → (D → View) → Bool → Result (Shelf D N) (BeginFault × D × N) → Type 0
OpensOwnIfEmpty view tells result =
    (IsTrue tells → ⊥) → IfOk result (λ s. s.book.instances.things.items ≡ [] → IsOwnShelf view tells s)

-- the disk's bytes are at fault where the opening says so
abbrev pub TellsFault : {D N : Type 0} → (D → View) → List Named → (shelf : ℕ) → D → Result (Shelf D N) (BeginFault × D × N) → Type 0
TellsFault view scripts shelf disk result = IsFault scripts shelf (view disk) (fault_of result)

-- where an opening tells a fault of the disk, one of its calls has failed
abbrev pub TellsCause : {D N : Type 0} → (D → View) → D → Result (Shelf D N) (BeginFault × D × N) → Type 0
TellsCause view disk result = IsErrOf (fault_of result) fault.DiskFault → Rose (view disk).faults (view (disk_of result)).faults

-- unless an opening tells a fault of the disk, nothing was lost on the disk, and nothing was added but what the opening tells there
abbrev pub KeepsDisk : {D N : Type 0} → (D → View) → List Named → (shelf : ℕ) → D → Result (Shelf D N) (BeginFault × D × N) → Type 0
KeepsDisk view scripts shelf disk result =
    (IsErrOf (fault_of result) fault.DiskFault → ⊥)
    → KeepsRecords shelf (added_by scripts shelf (making_after shelf (view disk)) (fault_of result)) (view disk) (view (disk_of result))

-- where an opening tells that there is no room for the setup, this is so of whatever a crash leaves of the disk that is handed back
abbrev pub IsFullStill : {D N : Type 0} → (D → View) → List Named → (shelf : ℕ) → Result (Shelf D N) (BeginFault × D × N) → Type 0
IsFullStill view scripts shelf result =
    (len : ℕ) → IsErrOf (fault_of result) (fault.Full len) → (image : List ℕ) → (view (disk_of result)).images image
    → IsTooLongIn scripts shelf image len

-- the book is the one after the event crash, by which what was in doubt is lost or kept
abbrev pub IsCrashed : Rules → Book → (nonce : ℕ) → List Named → Fate → Book → Type 0
IsCrashed rules b nonce scripts fate c = step rules b nonce (crash scripts) fate ≡ (live (length c.instances), c)

-- What is opened with a setup on a disk that a crash left of an own shelf in order is the shelf after the event crash.
abbrev pub AReopenedShelfHasCrashed : {D : Type 0} → (D → View) → Type 0
AReopenedShelfHasCrashed {D} view =
    (scripts : List Named) (shelf : ℕ) (rules : Rules) (b c : Book) (nonce : ℕ) (old new : D) → AreOver rules shelf
    → StandsMeasured rules shelf (view old) b → AreAmong (view new).images (view old).images
    → IsOneOf setup_of_texts shelf scripts (view new) c
    → IsCrashed rules b nonce scripts lost c ⊎ IsCrashed rules b nonce scripts kept c

-- What is opened on a disk that a crash left of an own shelf in order whose book is sound has a sound book.
abbrev pub AReopenedShelfIsSound : {D : Type 0} → (D → View) → Type 0
AReopenedShelfIsSound {D} view =
    (scripts : List Named) (shelf : ℕ) (rules : Rules) (b c : Book) (old new : D) → IsSound b → AreOver rules shelf
    → StandsMeasured rules shelf (view old) b → AreAmong (view new).images (view old).images
    → IsOneOf setup_of_texts shelf scripts (view new) c → IsSound c

-- a fault that tells neither damage nor another shelf
abbrev pub IsOfNoRecord : BeginFault → Type 0
IsOfNoRecord (fault.Damaged place) = ⊥
IsOfNoRecord (fault.Other place) = ⊥
IsOfNoRecord _ = ⊤

-- A disk that a crash left of a shelf in order is neither damaged nor another shelf's.
abbrev pub AStandingDiskOpens : {D : Type 0} → (D → View) → Type 0
AStandingDiskOpens {D} view =
    (scripts : List Named) (shelf : ℕ) (b : Book) (old new : D) (e : BeginFault) → Stands setup_of_texts shelf (view old) b
    → AreAmong (view new).images (view old).images → IsFaultOf scripts shelf (view new) e → IsOfNoRecord e
