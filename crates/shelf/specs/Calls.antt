-- What the calls inside ensure, by the program's values before them and after them.
use Rattle.std.specs.Prelude.{◌≡◌, ◌<◌, ◌≤◌, ◌^◌, ℕ, Bool, false, IfOk, IsErrOf, IsTrue, List, Option, Result, Ok, is_some}
use Rattle.std.specs.Global.{Vec}
use Rattle.script_value.specs.declared.outcome.Reply.{Reply}
use Rattle.script_nodes.specs.Views.{library_of, scripts_of}
use Rattle.script_nodes.specs.declared.library.Library.{Library}
use Rattle.script_nodes.specs.declared.setup.Setup.{Setup}
use Rattle.machine_states.specs.declared.segment.Segment.{Segment}
use Rattle.web_disk.specs.View.{View, LeavesOnly}
use Rattle.page_journal.specs.Holding.{MayHold}
use Rattle.page_journal.specs.Records.{newest}
use Rattle.page_journal.specs.Settled.{HasFailed, bodies_in, length_with, view_of}
use Rattle.page_journal.specs.Taken.{TakesAll}
use Rattle.page_journal.specs.declared.journal.Journal.{Journal}
use Rattle.book_recovery.specs.InstanceBook.Makes.{HasItsStates}
use Rattle.book_recovery.specs.InstanceBook.Standing.{book_under}
use Rattle.book_recovery.specs.InstanceBook.declared.book.Book.{Book}
use Rattle.book_visits.specs.Admissions.{FitsIn}
use Rattle.book_visits.specs.Views.{reply_of}
use Rattle.book_visits.specs.declared.prepared.Prepared.{Prepared}
use Rattle.book_visits.specs.declared.ticket.Ticket.{Ticket}
use Rattle.file_copies.specs.OfFileNotes.declared.notes.FileNotes.{FileNotes}
use Rattle.file_copies.specs.declared.copying.CopyFault.{CopyFault}
use Rattle.file_copies.specs.declared.copying.CopyFault.TheVariants as copy
use Rattle.shelf.specs.Compacting.{IsCopyFor, Rewrites}
use Rattle.shelf.specs.Events.{HasOwnMoments, IsPublish, TellsReply, decision_of}
use Rattle.shelf.specs.Holding.{IsForItsVisit}
use Rattle.shelf.specs.Opening.{HasOwnRecords, IsOfNow, Opens, OpensOneOf, OpensOwn, StandsThroughout, TellsFull, TellsSetup, with_book}
use Rattle.shelf.specs.Owning.{IsOwnImage}
use Rattle.shelf.specs.Preparing.{IsDecided, IsDecidedIfHeld, ShowsState}
use Rattle.shelf.specs.Views.{HoldNow, IsOwnShelf, IsOwnVisit, IsSegmentNow, KeepsStateNow}
use Rattle.shelf.specs.declared.begin.BeginFault.{BeginFault}
use Rattle.shelf.specs.declared.compaction.CompactFault.{CompactFault}
use Rattle.shelf.specs.declared.compaction.Planned.{Planned}
use Rattle.shelf.specs.declared.follower.Follower.{Follower}
use Rattle.shelf.specs.declared.rules.Rules.{Rules}
use Rattle.shelf.specs.declared.shelf.Shelf.{Shelf}

-- ---- opening

-- Where a journal has room for this body, it gets it after its records.
abbrev pub TellsIfFits : {D T : Type 0} → (D → View) → (tells : Bool) → (old new : Journal D) → (body : List ℕ) → Result T BeginFault → Type 0
TellsIfFits view tells old new body result = length_with old body ≤ 2 ^ 30 → TellsSetup view tells old new body result

-- Where a journal has no room for this body, that is told, and nothing is done.
abbrev pub IsFullUnlessFits : {D T : Type 0} → (old new : Journal D) → (body : List ℕ) → Result T BeginFault → Type 0
IsFullUnlessFits old new body result = 2 ^ 30 < length_with old body → TellsFull old new body result

-- What is made of a journal whose book was read is that book, with this setup, or it is told why it is not.
abbrev pub GoesOn : {D : Type 0} → (D → View) → (tells : Bool) → Setup → (shelf : ℕ) → (old new : Journal D) → Book → Library
    → Result (Unit {0}) BeginFault → Type 0
GoesOn view tells setup shelf old new b library result =
    Opens view tells (scripts_of setup) shelf false old new (with_book b library result)

-- Where the records of a journal are own ones, and the book that was read of them has the states of its chains, so it is after this.
abbrev pub GoesOnOwn : {D : Type 0} → (D → View) → (tells : Bool) → (shelf : ℕ) → (old new : Journal D) → Book → (library next : Library)
    → Result (Unit {0}) BeginFault → Type 0
GoesOnOwn view tells shelf old new b library next result =
    IsTrue tells → HasOwnRecords view shelf old → HasItsStates (library_of library).all b
    → IfOk (with_book b next result) (OpensOwn view shelf new)

-- What is made of a journal is a book, with this setup unless the shelf follows, or it is told why it is not.
abbrev pub OpensWith : {D : Type 0} → (D → View) → (tells : Bool) → Setup → (shelf : ℕ) → Option Follower → (old new : Journal D)
    → Result (Book × Library) BeginFault → Type 0
OpensWith view tells setup shelf follower old new result = Opens view tells (scripts_of setup) shelf (is_some follower) old new result

-- Where the records of a journal are own ones, so they are after the opening, and the book has the states of its chains.
abbrev pub OpensOwnFrom : {D : Type 0} → (D → View) → (tells : Bool) → (shelf : ℕ) → (old new : Journal D) → Result (Book × Library) BeginFault
    → Type 0
OpensOwnFrom view tells shelf old new result = IsTrue tells → HasOwnRecords view shelf old → IfOk result (OpensOwn view shelf new)

-- On a disk of the newest format, the book of the shelf that was opened is one of the two between which the disk stood.
abbrev pub OpensOneIfNow : {D N : Type 0} → (D → View) → (tells : Bool) → Setup → (shelf : ℕ) → D → Result (Shelf D N) (BeginFault × D × N) → Type 0
OpensOneIfNow view tells setup shelf disk result =
    IsTrue tells → IsOfNow (view disk) → OpensOneOf view (scripts_of setup) shelf disk result

-- A disk of the newest format stands at each moment of the opening for a book for which it stood, or for it with this setup.
abbrev pub StandsIfNow : {D N : Type 0} → (D → View) → (tells : Bool) → Setup → (shelf : ℕ) → D → Result (Shelf D N) (BeginFault × D × N) → Type 0
StandsIfNow view tells setup shelf disk result =
    IsTrue tells → IsOfNow (view disk) → StandsThroughout view (scripts_of setup) shelf disk result

-- A shelf that is opened on records of this program's own is its own.
abbrev pub BeginsOwn : {D N E : Type 0} → (D → View) → (tells : Bool) → (shelf : ℕ) → View → Result (Shelf D N) E → Type 0
BeginsOwn view tells shelf disk result = IsTrue tells → IsOwnImage shelf disk.seen → IfOk result (IsOwnShelf view tells)

-- ---- records

-- A crash at any moment of a call leaves the records of a journal, in the newest format, with this one after them or without it.
abbrev pub AddsThroughout : {D : Type 0} → (D → View) → Journal D → (body : List ℕ) → Journal D → Type 0
AddsThroughout view old body new = LeavesOnly (view_of view old) (view_of view new) (MayHold newest (bodies_in view old) body)

-- The taker takes all records of a shelf's journal, in order.
abbrev pub TakesEach : {T D N : Type 0} → (T → ℕ → List ℕ → T → Type 0) → (D → View) → Shelf D N → (old new : T) → Type 0
TakesEach takes view shelf old new = TakesAll takes old 8 (bodies_in view shelf.journal) new

-- ---- compacting

-- The bytes are the copy that was planned of a journal's records, with this number.
abbrev pub IsCopyIn : {D : Type 0} → (D → View) → Journal D → FileNotes → Planned → (number : ℕ) → Vec ℕ → Type 0
IsCopyIn view journal notes planned number file = IsCopyFor notes planned number (bodies_in view journal) file

-- Where a copy is not made for a fault of the disk, one of its calls has failed.
abbrev pub FailsInCopy : {D T : Type 0} → (D → View) → (old new : Journal D) → Result T CopyFault → Type 0
FailsInCopy view old new result = IsErrOf result copy.DiskFault → HasFailed (view_of view old) (view_of view new)

-- Where a copy is not made for want of memory, no call of the disk has failed.
abbrev pub CountsInCopy : {D T : Type 0} → (D → View) → (old new : Journal D) → Result T CopyFault → Type 0
CountsInCopy view old new result = IsErrOf result copy.Memory → (view_of view new).faults ≡ (view_of view old).faults

-- The compacted file of this book is put in the place of the current one, or not.
abbrev pub RewritesFor : {D : Type 0} → (D → View) → (tells : Bool) → (old new : Journal D) → FileNotes → Book → Library
    → Result FileNotes CompactFault → Type 0
RewritesFor view tells old new notes b library result = Rewrites view tells old new notes b (library_of library) result

-- ---- publishing

-- The segment is that of the visit over the cells of now, where the ticket is for its target's visit.
abbrev pub ComesNow : (fuel : ℕ) → Library → Book → Ticket → Result Segment Reply → Type 0
ComesNow fuel library b t result =
    IsForItsVisit (library_of library) b t → IfOk result (IsSegmentNow fuel (book_under (library_of library) b) t)

-- The segment keeps the state of its visit over the cells of now, where the ticket is for its target's visit.
abbrev pub KeepsNow : Library → Book → Ticket → Result Segment Reply → Type 0
KeepsNow library b t result = IsForItsVisit (library_of library) b t → IfOk result (KeepsStateNow (book_under (library_of library) b) t)

-- The first run's segment is the answer where its effects hold over the cells of now, and the ticket is for its target's visit.
abbrev pub StaysIfHeld : Library → Book → Ticket → (first : Segment) → Result Segment Reply → Type 0
StaysIfHeld library b t first result =
    IsForItsVisit (library_of library) b t → HoldNow (book_under (library_of library) b) t first → result ≡ Ok first

-- The page that is prepared has the state of its chain, where the ticket is for the visit of its target.
abbrev pub ShowsIfFits : Library → Book → Ticket → Result Prepared Reply → Type 0
ShowsIfFits library b t result = FitsIn (library_of library) b t.target t → IfOk result (ShowsState (library_of library) b)

-- What a publish comes to is prepared, or its refusal is told, where the ticket is for the visit of its target.
abbrev pub DecidesIfFits : Library → Rules → Book → Ticket → Result Prepared Reply → Type 0
DecidesIfFits library rules b t result = FitsIn (library_of library) b t.target t → IsDecided (library_of library) rules b t result

-- Where no second run is due, this is so but for want of memory for a change.
abbrev pub DecidesIfHeld : Library → Rules → Book → Ticket → Option Segment → Result Prepared Reply → Type 0
DecidesIfHeld library rules b t segment result =
    FitsIn (library_of library) b t.target t → IsDecidedIfHeld (library_of library) rules b t segment result

-- A publish of an own visit is one event.
abbrev pub PublishesOwn : {D N : Type 0} → (D → View) → (tells : Bool) → (coming : N → ℕ → ℕ) → (old new : Shelf D N) → Ticket → Reply → Type 0
PublishesOwn view tells coming old new t result = IsOwnVisit view tells old t → IsPublish view coming old new t result

-- A crash at any moment of a call for an own visit leaves own records, and what makes the book before it or after it.
abbrev pub KeepsOwnMoments : {D N : Type 0} → (D → View) → (tells : Bool) → (old new : Shelf D N) → Ticket → Type 0
KeepsOwnMoments view tells old new t = IsTrue tells → IsOwnVisit view tells old t → HasOwnMoments view old new

-- What an own visit comes to is told where it changes nothing, whatever is measured.
abbrev pub TellsDecided : {D N : Type 0} → (D → View) → (tells : Bool) → Shelf D N → Ticket → Reply → Type 0
TellsDecided view tells s t result = IsOwnVisit view tells s t → TellsReply (decision_of view s t) (reply_of result)
