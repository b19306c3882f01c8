-- What holds of disks that stand for books, by the calls of their journals.
use Rattle.std.specs.Prelude.{◌≡◌, ℕ, List, Some, None}
use Rattle.script_nodes.specs.Setup.{Named}
use Rattle.web_disk.specs.View.{View, NoNewImage, Elapses, LeavesOnly}
use Rattle.page_journal.specs.Holding.{MayHoldNowAndThroughout, ClosedNowAndThroughout, EitherNowAndThroughout}
use Rattle.page_journal.specs.Settled.{IsSettled, view_of, bodies_in}
use Rattle.page_journal.specs.declared.journal.Journal.{Journal}
use Rattle.replay_spec.specs.Book.{Book, reopened}
use Rattle.journal_spec.specs.Before.{Made}
use Rattle.journal_spec.specs.Making.{Texts, made_in}
use Rattle.journal_spec.specs.Bytes.{book_in_bytes}
use Rattle.journal_spec.specs.Opening.{opened_book, opened_on}
use Rattle.journal_spec.specs.Keeping.{Keeps}
use Rattle.journal_spec.specs.Standing.{MakesOf, Flight, Between, Carries, Hold, if_kept, Stands, Throughout, StaysThroughout, IsFoundOne, IsOneOf, OpensThroughout}

-- Whatever two books a disk stood between, at each moment of a recovery a crash leaves it there.
abbrev pub RecoveriesStay : {D : Type 0} → (D → View) → Type 0
RecoveriesStay {D} view =
    (texts : Texts) (shelf : ℕ) (old new : D)
    → MayHoldNowAndThroughout (view old) (view new) → ClosedNowAndThroughout (view old) (view new)
    → EitherNowAndThroughout (view old) (view new)
    → StaysThroughout texts shelf (view old) (view new)

-- The book that a recovery makes of what it reads is one of the two that the disk stood between, and the one that a shelf goes on with is
-- one of these with the setup that it is opened with.
abbrev pub RecoveriesFindOne : {D : Type 0} → (D → View) → Type 0
RecoveriesFindOne {D} view =
    (texts : Texts) (shelf : ℕ) (disk : D) (m : Made)
    → (made_in (book_in_bytes texts shelf (view disk).seen) ≡ Some m → IsFoundOne texts shelf (view disk) m.book)
    × ((scripts : List Named) → opened_on shelf scripts (book_in_bytes texts shelf (view disk).seen) ≡ Some m
    → IsOneOf texts shelf scripts (view disk) m.book)

-- A recovery, and after it a call that stands between the book that was found and the one with the setup that the shelf is opened with,
-- leave the disk between the two books that it stood between, or one of these and it with that setup. A recovery alone does so too.
abbrev pub OpeningsStay : {D : Type 0} → (D → View) → Type 0
OpeningsStay {D} view =
    (texts : Texts) (shelf : ℕ) (scripts : List Named) (old mid : D) → StaysThroughout texts shelf (view old) (view mid)
    → OpensThroughout texts shelf scripts (view old) (view mid)
    × ((b : Book) (new : D) → IsFoundOne texts shelf (view old) b
    → Throughout texts shelf b (opened_book shelf scripts b) (view mid) (view new)
    → OpensThroughout texts shelf scripts (view old) (view new))

-- A journal that can go on stands for the book that its records make, where nothing is in doubt.
abbrev pub SettledJournalsStand : {D : Type 0} → (D → View) → Type 0
SettledJournalsStand {D} view =
    (texts : Texts) (shelf : ℕ) (journal : Journal D) (b : Book) → IsSettled view journal
    → MakesOf texts shelf journal.format (bodies_in view journal) b → b.down ≡ None
    → Stands texts shelf (view_of view journal) b

-- A call that leaves no new image leaves a disk standing for its book, at each moment.
abbrev pub QuietCallsStand : {D : Type 0} → (D → View) → Type 0
QuietCallsStand {D} view =
    (texts : Texts) (shelf : ℕ) (b : Book) (old new : D) → (s : Stands texts shelf (view old) b)
    → NoNewImage (view old) (view new) → Elapses (view old) (view new)
    → Throughout texts shelf b (if_kept s.0 b) (view old) (view new)
    × ((t : Stands texts shelf (view new) b) × (t.0 ≡ s.0))

-- A settled journal that makes room, and then adds a record or gives place to another file, stands between the book before and the one
-- after it, at each moment, whatever the answer was.
abbrev pub WritesStandBetween : {D : Type 0} → (D → View) → Type 0
WritesStandBetween {D} view =
    (texts : Texts) (shelf : ℕ) (before after : Book) (old mid new : Journal D) (t : Flight)
    → IsSettled view old
    → (k : Between texts shelf before after) → Carries old.format (bodies_in view old) t k
    → NoNewImage (view_of view old) (view_of view mid) → Elapses (view_of view old) (view_of view mid)
    → LeavesOnly (view_of view mid) (view_of view new) (Hold old.format (bodies_in view old) t)
    → Throughout texts shelf before after (view_of view old) (view_of view new)

-- A call that stood between the book before and the one after it leaves the disk standing for the book that it left, also
-- where it failed, with what is in doubt as long as it was there.
abbrev pub CallsLeaveStanding : {D : Type 0} → (D → View) → Type 0
CallsLeaveStanding {D} view =
    (texts : Texts) (shelf n : ℕ) (before after b : Book) (old new : D)
    → Throughout texts shelf before after (view old) (view new)
    → reopened before ≡ reopened b → reopened after ≡ reopened (if_kept n b)
    → (t : Stands texts shelf (view new) b) × (t.0 ≡ n)

-- What a shelf promises of its journal, and asks for: where nothing is in doubt, it can go on, and its records make the book;
-- a crash leaves what makes the book, with what is in doubt or without it.
pub record IsFit {D : Type 0} (view : D → View) (texts : Texts) (shelf : ℕ) (journal : Journal D) (b : Book) : Type 0 where
  pub settled : b.down ≡ None → IsSettled view journal
  pub holds : b.down ≡ None → Keeps texts shelf (bodies_in view journal) b
  pub stands : Stands texts shelf (view_of view journal) b
