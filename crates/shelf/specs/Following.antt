-- Shelves that follow another one's journal: what a record more makes of one, and what of one that follows no longer.
use Rattle.std.specs.Prelude.{◌≡◌, ◌⊎◌, ◌<◌, ◌^◌, ◌+◌, ℕ, Bool, true, false, IsTrue, List, [], ◌∷◌, ◌++◌, length, Option, Some, None, Result, Ok, Err, ⊤}
use Rattle.std.specs.declared.alloc.AllocError.{AllocError}
use Rattle.script_value.specs.declared.outcome.Reply.{Reply}
use Rattle.script_value.specs.declared.outcome.Reply.TheVariants as reply
use Rattle.script_nodes.specs.Setup.{Library}
use Rattle.script_nodes.specs.Views.{library_of}
use Rattle.script_nodes.specs.declared.library.Library as kept
use Rattle.book_recovery.specs.SetupReader.Texts.{setup_of_texts}
use Rattle.web_outside.specs.Causes.{Rose}
use Rattle.web_disk.specs.View.{View, LeavesOnly}
use Rattle.page_journal.specs.Records.{newest}
use Rattle.page_journal.specs.Holding.{MayHold}
use Rattle.page_journal.specs.Settled.{IsSettled, IsSound, view_of, bodies_in, length_of, length_with, is_broken}
use Rattle.replay_spec.specs.Admission.{◌>>=◌}
use Rattle.journal_records.specs.Records.{follows, promotes, body_of}
use Rattle.journal_records.specs.Roles.{is_role}
use Rattle.book_recovery.specs.JournalSpec.Before.{Made}
use Rattle.book_recovery.specs.JournalSpec.Making.{Making, made_in, book_of}
use Rattle.book_recovery.specs.JournalSpec.Old.{with_body_at}
use Rattle.book_recovery.specs.JournalSpec.Standing.{Makes}
use Rattle.book_recovery.specs.InstanceBook.declared.book.Book.{Book as RustBook}
use Rattle.file_copies.specs.OfFileNotes.declared.notes.FileNotes.{FileNotes}
use Rattle.file_copies.specs.OfFileNotes.Files.{marks_in, StaysAsTold}
use Rattle.book_recovery.specs.Noting.{mark_in, IsFileOf}
use Rattle.book_recovery.specs.Reading.{seen_by}
use Rattle.book_recovery.specs.Adopting.{IsUnchanged}
use Rattle.shelf.specs.Events.{IsLeftAlone}
use Rattle.shelf.specs.Fed.{IsFedAs}
pub use Rattle.shelf.specs.Fed.{IsFedAt}
use Rattle.shelf.specs.Opening.{making_of}
use Rattle.shelf.specs.Views.{follows_in, book_in, IsInOrder}
use Rattle.shelf.specs.declared.adopt.AdoptFault.{AdoptFault}
use Rattle.shelf.specs.declared.adopt.AdoptFault.TheVariants as fault
use Rattle.shelf.specs.declared.follower.Follower.{Follower}
use Rattle.shelf.specs.declared.follower.Fed.TheVariants as fed
use Rattle.shelf.specs.declared.shelf.Shelf.{Shelf}

-- ---- which shelves these are

-- how often a call of the disk had failed when one failed as a record was added, if the shelf follows and one did
abbrev pub fallen_in : {D N : Type 0} → Shelf D N → Option ℕ
fallen_in s = s.follower >>= (λ f. f.fallen)

-- the shelf follows, and no call of the disk has failed as a record was added: it can be fed
pub record CanBeFed {D N : Type 0} (s : Shelf D N) : Type 0 where
  pub follows_on : follows_in s ≡ true
  pub standing : fallen_in s ≡ None

-- a shelf that can be fed is in order
abbrev pub IsInOrderIfFed : {D N : Type 0} → (D → View) → Bool → Shelf D N → Type 0
IsInOrderIfFed view tells s = CanBeFed s → IsInOrder view tells s

-- the records of a shelf's journal can be read
pub record IsReadable {D N : Type 0} (view : D → View) (tells : Bool) (s : Shelf D N) : Type 0 where
  pub sound : IsSound s.journal
  pub settled : IsTrue tells → IsSettled view s.journal

-- A shelf that does not follow, and whose journal has no record of a setup: it has no book. Its journal can be read.
pub record HasNotBegun {D N : Type 0} (view : D → View) (tells : Bool) (s : Shelf D N) : Type 0 where
  pub leads : follows_in s ≡ false
  pub up : s.down ≡ None
  pub readable : IsReadable view tells s
  pub newest_is : s.journal.format ≡ newest
  pub whole : is_broken s.journal ≡ false
  pub none : IsTrue tells → made_in (making_of view s.rules.number s.journal) ≡ None

-- what is opened without a setup, or promoted: a shelf in order, or one that has not begun
abbrev pub IsOpen : {D N : Type 0} → (D → View) → Bool → Shelf D N → Type 0
IsOpen view tells s = IsInOrder view tells s ⊎ HasNotBegun view tells s

-- ---- a record more

-- A body stands after those of the journal of a shelf of this number that follows: it does not tell whether a shelf follows, and the records
-- make a book with it.
pub record CanStand (shelf : ℕ) (bodies : List (List ℕ)) (body : List ℕ) : Type 0 where
  pub fed : is_role body ≡ false
  pub made : Made
  pub makes : made_in (book_of setup_of_texts shelf (bodies ++ body ∷ [])) ≡ Some made

-- where the disk tells its bytes, a body stands after those of the shelf's journal
abbrev pub StandsBehind : {D N : Type 0} → (D → View) → Bool → Shelf D N → List ℕ → Type 0
StandsBehind view tells s body = IsTrue tells → CanStand s.rules.number (bodies_in view s.journal) body

-- where the disk tells its bytes, no such body does
abbrev pub StandsNowhere : {D N : Type 0} → (D → View) → Bool → Shelf D N → List ℕ → Type 0
StandsNowhere view tells s body = IsTrue tells → CanStand s.rules.number (bodies_in view s.journal) body → ⊥

-- The book is as it was, the disk was left alone, and the shelf can be fed as before.
pub record StaysFed {D N : Type 0} (view : D → View) (old new : Shelf D N) : Type 0 where
  pub could : CanBeFed old
  pub can : CanBeFed new
  pub book : book_in view new ≡ book_in view old
  pub disk : IsLeftAlone (view_of view old.journal) (view_of view new.journal)

-- a call of the disk failed as a record was added, and the shelf is fed no more
pub record HasFallen {D N : Type 0} (view : D → View) (old new : Shelf D N) (count : ℕ) : Type 0 where
  pub could : CanBeFed old
  pub is : fallen_in new ≡ Some count
  pub counts : count ≡ (view_of view new.journal).faults
  pub rose : Rose (view_of view old.journal).faults (view_of view new.journal).faults

-- The body stands after those that the journal had, which make the book with it; and the shelf can be fed on.
pub record HasAdopted {D N : Type 0} (view : D → View) (tells : Bool) (old new : Shelf D N) (body : List ℕ) : Type 0 where
  pub could : CanBeFed old
  pub can : CanBeFed new
  pub stands : StandsBehind view tells old body
  pub bodies : IsTrue tells → bodies_in view new.journal ≡ bodies_in view old.journal ++ body ∷ []
  pub long : length_of new.journal ≡ length_with old.journal body
  pub book : IsTrue tells → Makes setup_of_texts old.rules.number (bodies_in view new.journal) (book_in view new)

-- the body stands there, and the journal would be so long with it, which is longer than one may be
pub record IsTooLongFed {D N : Type 0} (view : D → View) (tells : Bool) (old new : Shelf D N) (body : List ℕ) (n : ℕ) : Type 0 where
  pub stays : StaysFed view old new
  pub stands : StandsBehind view tells old body
  pub is : n ≡ length_with old.journal body
  pub long : 2 ^ 30 < n

-- the body stands nowhere there
pub record IsOutside {D N : Type 0} (view : D → View) (tells : Bool) (old new : Shelf D N) (body : List ℕ) : Type 0 where
  pub stays : StaysFed view old new
  pub nowhere : StandsNowhere view tells old body

-- nothing was done, since the shelf has fallen
pub record WasDown {D N : Type 0} (old new : Shelf D N) (count : ℕ) : Type 0 where
  pub follows_on : follows_in old ≡ true
  pub fallen : fallen_in old ≡ Some count
  pub same : new ≡ old

-- nothing was done, since the shelf does not follow
pub record WasLeading {D N : Type 0} (old new : Shelf D N) : Type 0 where
  pub leads : follows_in old ≡ false
  pub same : new ≡ old

-- what a body that a shelf is fed makes of it, and why it makes nothing; want of memory may stand for what is asked of the record
abbrev pub Adopts : {D N : Type 0} → (D → View) → Bool → (old new : Shelf D N) → (body : List ℕ) → Result (Unit {0}) AdoptFault → Type 0
Adopts view tells old new body (Ok x) = HasAdopted view tells old new body
Adopts view tells old new body (Err fault.Leader) = WasLeading old new
Adopts view tells old new body (Err (fault.Down count)) = WasDown old new count
Adopts view tells old new body (Err fault.Outside) = IsOutside view tells old new body
Adopts view tells old new body (Err (fault.Full n)) = IsTooLongFed view tells old new body n
Adopts view tells old new body (Err (fault.DiskFault count)) = HasFallen view old new count × StandsBehind view tells old body
Adopts view tells old new body (Err fault.Memory) = StaysFed view old new

-- a crash at any moment of a call on a shelf that can be fed leaves the records that its journal has, with this body after them or without it
abbrev pub AddsThroughout : {D N : Type 0} → (D → View) → (old new : Shelf D N) → (body : List ℕ) → Type 0
AddsThroughout view old new body =
    CanBeFed old → LeavesOnly (view_of view old.journal) (view_of view new.journal) (MayHold newest (bodies_in view old.journal) body)

-- a crash at any moment of a call leaves what one might have left before it
abbrev pub LeavesAsBefore : {D N : Type 0} → (D → View) → (old new : Shelf D N) → Type 0
LeavesAsBefore view old new = LeavesOnly (view_of view old.journal) (view_of view new.journal) (view_of view old.journal).images

-- What a crash at any moment leaves while a shelf is fed a body. Where the disk was asked to write it, this is the records that the journal had, with
-- the body after them or without it, if the disk tells its bytes. Where the body is refused, it is what a crash might have left before, on any disk.
abbrev pub AdoptsThroughout : {D N : Type 0} → (D → View) → Bool → (old new : Shelf D N) → (body : List ℕ) → Result (Unit {0}) AdoptFault → Type 0
AdoptsThroughout view tells old new body (Ok x) = IsTrue tells → AddsThroughout view old new body
AdoptsThroughout view tells old new body (Err (fault.DiskFault count)) = IsTrue tells → AddsThroughout view old new body
AdoptsThroughout view tells old new body (Err _) = LeavesAsBefore view old new

-- ---- and none

-- The body that tells that the shelf follows no longer stands after those that the journal had. The book is as it was, but for the length of its
-- file and that the shelf leads, which is in order or has not begun.
pub record IsPromoted {D N : Type 0} (view : D → View) (tells : Bool) (old new : Shelf D N) : Type 0 where
  pub could : CanBeFed old
  pub leads : follows_in new ≡ false
  pub bodies : IsTrue tells → bodies_in view new.journal ≡ bodies_in view old.journal ++ body_of promotes ∷ []
  pub book : book_in view new ≡ record (book_in view old) { length = length_of old.journal + 6; follows = false }
  pub opened : IsOpen view tells new

-- the journal would be so long with that body, which is longer than one may be
pub record IsTooLongPromoted {D N : Type 0} (view : D → View) (old new : Shelf D N) (n : ℕ) : Type 0 where
  pub stays : StaysFed view old new
  pub is : n ≡ length_of old.journal + 6
  pub long : 2 ^ 30 < n

-- what becomes of a shelf that is promoted: one that does not follow is left alone
abbrev pub Promotes : {D N : Type 0} → (D → View) → Bool → (old new : Shelf D N) → Result Bool Reply → Type 0
Promotes view tells old new (Ok true) = IsPromoted view tells old new
Promotes view tells old new (Ok false) = WasLeading old new
Promotes view tells old new (Err (reply.Down count)) = WasDown old new count
Promotes view tells old new (Err (reply.JournalFull n)) = IsTooLongPromoted view old new n
Promotes view tells old new (Err (reply.DiskFault count)) = HasFallen view old new count
Promotes view tells old new (Err reply.Memory) = StaysFed view old new
Promotes view tells old new (Err _) = ⊥

-- What a crash at any moment leaves while a shelf is promoted. Where the disk was asked to write the body that tells this, it is the records that the
-- journal had, with that body after them or without it, if the disk tells its bytes. Where it was not asked, it is what a crash might have left before,
-- on any disk.
abbrev pub PromotesThroughout : {D N : Type 0} → (D → View) → Bool → (old new : Shelf D N) → Result Bool Reply → Type 0
PromotesThroughout view tells old new (Ok true) = IsTrue tells → AddsThroughout view old new (body_of promotes)
PromotesThroughout view tells old new (Ok false) = LeavesAsBefore view old new
PromotesThroughout view tells old new (Err (reply.DiskFault count)) = IsTrue tells → AddsThroughout view old new (body_of promotes)
PromotesThroughout view tells old new (Err _) = LeavesAsBefore view old new

-- ---- what is kept of a shelf that follows, with one record more

-- what the records of the file make with this body more, whose gate is at this place
abbrev pub with_more : (shelf place : ℕ) → List ℕ → Making → Making
with_more shelf place body m = with_body_at newest setup_of_texts shelf place body m

-- The book, and what is kept beside it, are what the records make with this body more; and so is what is known of the file.
pub record IsFedOn (shelf : ℕ) (body : List ℕ) (old new : Follower) (b c : RustBook) (library next : kept.Library) (notes then_notes : FileNotes) : Type 0 where
  pub fallen : new.fallen ≡ old.fallen
  pub some : new.fed ≡ fed.Waits → ⊥
  pub fed_so : IsFedAs new.fed shelf new.seen c (library_of next)
  pub gives : (place : ℕ) (m : Making) → IsFedAt old.fed shelf (place + 1) old.seen b (library_of library) m
      → IsFedAt new.fed shelf (place + 5 + length body + 1) new.seen c (library_of next) (with_more shelf place body m)
  pub knows : (place : ℕ) (m : Making) → IsFedAt old.fed shelf (place + 1) old.seen b (library_of library) m → IsFileOf notes m
      → IsFileOf then_notes (with_more shelf place body m) × (marks_in then_notes ≡ marks_in notes ++ mark_in newest m body)

-- nothing is changed but the room that there is
pub record IsKeptSo (old new : Follower) (b c : RustBook) (library next : kept.Library) (notes then_notes : FileNotes) : Type 0 where
  pub fallen : new.fallen ≡ old.fallen
  pub fed_is : new.fed ≡ old.fed
  pub seen : seen_by new.seen ≡ seen_by old.seen
  pub book : IsUnchanged b c
  pub library_is : library_of next ≡ library_of library
  pub knows : StaysAsTold notes then_notes

-- the records make no book with this body more
abbrev pub MakesNone : (shelf : ℕ) → (body : List ℕ) → Follower → RustBook → kept.Library → Type 0
MakesNone shelf body f b library =
    (place : ℕ) (m : Making) → IsFedAt f.fed shelf (place + 1) f.seen b (library_of library) m → made_in (with_more shelf place body m) ≡ None

-- what one body more makes of the book, and of what is kept beside it
abbrev pub IsFedMore : (shelf : ℕ) → (body : List ℕ) → (old new : Follower) → (b c : RustBook) → (library next : kept.Library) → (notes then_notes : FileNotes) → Result Bool AllocError → Type 0
IsFedMore shelf body old new b c library next notes then_notes (Ok true) = IsFedOn shelf body old new b c library next notes then_notes
IsFedMore shelf body old new b c library next notes then_notes (Ok false) =
    IsKeptSo old new b c library next notes then_notes × MakesNone shelf body old b library
IsFedMore shelf body old new b c library next notes then_notes (Err e) = IsKeptSo old new b c library next notes then_notes

-- whether the records make a book with this body more
abbrev pub TellsPlace : (shelf : ℕ) → (body : List ℕ) → Follower → RustBook → kept.Library → Result Bool AllocError → Type 0
TellsPlace shelf body f b library (Ok true) =
    (place : ℕ) (m : Making) → IsFedAt f.fed shelf (place + 1) f.seen b (library_of library) m
    → (x : Made) × (made_in (with_more shelf place body m) ≡ Some x)
TellsPlace shelf body f b library (Ok false) = MakesNone shelf body f b library
TellsPlace shelf body f b library (Err e) = ⊤
