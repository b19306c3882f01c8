-- What opening a shelf without a setup finds.
use Rattle.std.specs.Prelude.{◌≡◌, ◌⊎◌, ◌≤◌, ℕ, Bool, true, false, IsTrue, List, [], ◌∷◌, Option, Some, None, Result, Ok, Err, IfOk, IfErr, IfSome, OnOk, IsErrOf, is_some, ⊤}
use Rattle.script_nodes.specs.Views.{library_of}
use Rattle.script_nodes.specs.declared.library.Library.{Library}
use Rattle.book_recovery.specs.SetupReader.Texts.{setup_of_texts}
use Rattle.web_disk.specs.View.{View, LeavesOnly}
use Rattle.page_journal.specs.Records.{newest, format_of, stored}
use Rattle.page_journal.specs.Holding.{MayHold, Holdable}
use Rattle.page_journal.specs.Scanned.{IsQuiet}
use Rattle.page_journal.specs.Settled.{HasFailed, IsSettled, view_of, bodies_in}
use Rattle.page_journal.specs.declared.journal.Journal.{Journal}
use Rattle.replay_spec.specs.Book.{Book, reopened}
use Rattle.journal_records.specs.Records.{follows, body_of}
use Rattle.book_recovery.specs.JournalSpec.Before.{Made}
use Rattle.book_recovery.specs.JournalSpec.Making.{Making, nothing, waits, damaged, other, made_in}
use Rattle.book_recovery.specs.JournalSpec.Standing.{IsMadeBook, Makes, Between, Held, HoldIn, StaysThroughout}
use Rattle.file_copies.specs.OfFileNotes.declared.notes.FileNotes.{FileNotes}
use Rattle.book_recovery.specs.InstanceBook.declared.book.Book.{Book as RustBook}
use Rattle.shelf.specs.Files.{KnowsRead}
use Rattle.shelf.specs.Migrating.{IsTooLongAnew}
use Rattle.shelf.specs.Opening.{making_of, making_on, making_after, opened_beside, HasStatesTold, IsOpenedBook, IsFollowerOf, HasAdded, KeepsRecords, IsRenewedAs, disk_of, fault_of}
use Rattle.shelf.specs.Views.{follows_in, book_in}
use Rattle.shelf.specs.declared.begin.BeginFault.{BeginFault}
use Rattle.shelf.specs.declared.begin.BeginFault.TheVariants as fault
use Rattle.shelf.specs.declared.follower.Follower.{Follower}
use Rattle.shelf.specs.declared.shelf.Shelf.{Shelf}

-- what a shelf goes on with that is opened without a setup, on records that make this: where there is none, and it is to follow, it does
abbrev pub opened_bare : (fed : Bool) → (shelf : ℕ) → Making → Making
opened_bare true shelf nothing = waits shelf
opened_bare _ shelf m = m

-- the bodies that it adds to them
abbrev pub bare_bodies : (fed : Bool) → Making → List (List ℕ)
bare_bodies true nothing = body_of follows ∷ []
bare_bodies _ m = []

-- the bodies that an opening without a setup added, which adds none where it fails
abbrev pub bare_added : {T : Type 0} → (fed : Bool) → Making → Result T BeginFault → List (List ℕ)
bare_added fed m (Ok x) = bare_bodies fed m
bare_added fed m (Err e) = []

-- whether the shelf follows whose records make this
abbrev pub follows_by : Option Made → Bool
follows_by None = false
follows_by (Some m) = m.book.follows

-- The records stand where a shelf writes them, and are of this shelf.
abbrev pub IsLawful : Making → Type 0
IsLawful (damaged place) = ⊥
IsLawful (other place) = ⊥
IsLawful _ = ⊤

-- The records are lawful ones. Where they make a book, it is this one, as after a crash; and whether the shelf follows is as they tell.
pub record IsOpenedBare {D N : Type 0} (view : D → View) (m : Making) (s : Shelf D N) : Type 0 where
  pub book : (x : Made) → made_in m ≡ Some x → IsMadeBook (made_in m) (book_in view s)
  pub again : (x : Made) → made_in m ≡ Some x → book_in view s ≡ reopened (book_in view s)
  pub follows_on : follows_in s ≡ follows_by (made_in m)
  pub lawful : IsLawful m

-- the shelf is opened on what the bytes of the disk make
abbrev pub OpensBare : {D N : Type 0} → (D → View) → (fed : Bool) → (shelf : ℕ) → D → Result (Shelf D N) (BeginFault × D × N) → Type 0
OpensBare view fed shelf disk result = IfOk result (IsOpenedBare view (opened_bare fed shelf (making_after shelf (view disk))))

-- whatever records a crash at first might leave, with one in flight or without it, a crash at any moment leaves them so; where there are none,
-- and the shelf is to follow, so it does with the record that tells it
abbrev pub HoldsRecordsThroughout : {D N : Type 0} → (D → View) → (fed : Bool) → D → Result (Shelf D N) (BeginFault × D × N) → Type 0
HoldsRecordsThroughout view fed disk result =
    (bodies : List (List ℕ)) (body : List ℕ) → Holdable bodies body → (fed ≡ true → bodies ≡ [] → body ≡ body_of follows)
    → ((image : List ℕ) → (view disk).images image → MayHold newest bodies body image)
    → LeavesOnly (view disk) (view (disk_of result)) (MayHold newest bodies body)

-- whatever two books the disk stood between, a crash at any moment of the opening leaves it there
abbrev pub StaysBare : {D N : Type 0} → (D → View) → (shelf : ℕ) → D → Result (Shelf D N) (BeginFault × D × N) → Type 0
StaysBare view shelf disk result = StaysThroughout setup_of_texts shelf (view disk) (view (disk_of result))

-- bytes may hold what makes the book with a file of the newest format
abbrev pub HoldsRenewed : (shelf : ℕ) → Book → List ℕ → Type 0
HoldsRenewed shelf b bytes = (c : Book) × (IsRenewedAs (reopened b) c × ((l : Between setup_of_texts shelf b c) × Held l bytes))

-- whatever two books the disk stood between, a crash at any moment of the opening leaves it there, or one of them with a file of the newest
-- format
abbrev pub StaysOrMigrates : {D N : Type 0} → (D → View) → (shelf : ℕ) → D → Result (Shelf D N) (BeginFault × D × N) → Type 0
StaysOrMigrates view shelf disk result =
    (before after : Book) (k : Between setup_of_texts shelf before after) → HoldIn k (view disk).images
    → LeavesOnly (view disk) (view (disk_of result)) (λ bytes. Held k bytes ⊎ (HoldsRenewed shelf before bytes ⊎ HoldsRenewed shelf after bytes))

-- the fault is why the bytes of the disk make no shelf, unless the outside failed
abbrev pub IsBareFault : (shelf : ℕ) → View → BeginFault → Type 0
IsBareFault shelf old (fault.Damaged place) = making_on shelf old ≡ damaged place
IsBareFault shelf old (fault.Other place) = making_on shelf old ≡ other place
IsBareFault shelf old (fault.Full n) = IsTooLongAnew (format_of old.seen) shelf (stored old.seen) n
IsBareFault shelf old fault.DiskFault = ⊤
IsBareFault shelf old fault.Memory = ⊤

-- the disk's bytes are at fault where the opening says so
abbrev pub TellsBareFault : {D N : Type 0} → (D → View) → (shelf : ℕ) → D → Result (Shelf D N) (BeginFault × D × N) → Type 0
TellsBareFault view shelf disk (Ok s) = ⊤
TellsBareFault view shelf disk (Err (e, d, n)) = IsBareFault shelf (view disk) e

-- unless the opening tells a fault of the disk, nothing was lost on the disk, and nothing was added but that the shelf follows
abbrev pub KeepsBareDisk : {D N : Type 0} → (D → View) → (fed : Bool) → (shelf : ℕ) → D → Result (Shelf D N) (BeginFault × D × N) → Type 0
KeepsBareDisk view fed shelf disk result =
    (IsErrOf (fault_of result) fault.DiskFault → ⊥)
    → KeepsRecords shelf (bare_added fed (making_after shelf (view disk)) (fault_of result)) (view disk) (view (disk_of result))

-- ---- of the journal

-- What is made of a journal is a book, which can go on, as its records tell; where the shelf follows, how far it was fed is known.
pub record BeginsBare {D : Type 0} (view : D → View) (tells : Bool) (fed : Bool) (shelf : ℕ) (old new : Journal D) (f : Option Follower) (notes : FileNotes) (o : RustBook × Library) : Type 0 where
  pub makes : IsTrue tells → Makes setup_of_texts shelf (bodies_in view new) (opened_beside view shelf (is_some f) new o.1 o.0)
  pub told : IsTrue tells → HasStatesTold view shelf new o
  pub in_order : IsOpenedBook shelf (is_some f) o.0 (library_of o.1)
  pub follows_on : IfSome f (IsFollowerOf view tells shelf new o)
  pub known : IsTrue tells → KnowsRead view shelf new notes

-- what is made of a journal of lawful records is no book, and the shelf does not follow
pub record BeginsNothing {D : Type 0} (view : D → View) (tells : Bool) (shelf : ℕ) (new : Journal D) (f : Option Follower) : Type 0 where
  pub leads : f ≡ None
  pub none : IsTrue tells → made_in (making_of view shelf new) ≡ None
  pub lawful : IsTrue tells → IsLawful (making_of view shelf new)

-- why no book was made, and no shelf that has not begun, unless the outside failed
abbrev pub IsBareReadFault : Making → BeginFault → Type 0
IsBareReadFault m (fault.Damaged place) = m ≡ damaged place
IsBareReadFault m (fault.Other place) = m ≡ other place
IsBareReadFault m (fault.Full n) = ⊥
IsBareReadFault m fault.DiskFault = ⊤
IsBareReadFault m fault.Memory = ⊤

-- What is made of a journal that is opened without a setup. Nothing is written but that the shelf follows.
pub record OpensParts {D : Type 0} (view : D → View) (tells : Bool) (fed : Bool) (shelf : ℕ) (old new : Journal D) (f : Option Follower) (notes : FileNotes) (result : Result (RustBook × Library) BeginFault) : Type 0 where
  pub opened : IfOk result (λ o. BeginsBare view tells fed shelf old new f notes o ⊎ BeginsNothing view tells shelf new f)
  pub settled : IsTrue tells → OnOk result (IsSettled view new)
  pub makes : IsTrue tells → OnOk result (making_of view shelf new ≡ opened_bare fed shelf (making_of view shelf old))
  pub quiet : IsTrue tells → bare_bodies fed (making_of view shelf old) ≡ [] → IsQuiet (view_of view old) (view_of view new)
  pub moments : IsTrue tells → bodies_in view old ≡ [] → LeavesOnly (view_of view old) (view_of view new) (MayHold newest [] (body_of follows))
  pub refused : IsTrue tells → IfErr result (IsBareReadFault (making_of view shelf old))
  pub keeps : IsTrue tells → (IsErrOf result fault.DiskFault → ⊥) → HasAdded view (bare_added fed (making_of view shelf old) result) old new
  pub cause : IsErrOf result fault.DiskFault → HasFailed (view_of view old) (view_of view new)
  pub later : (view_of view old).faults ≤ (view_of view new).faults
