-- Shelves that are opened without a setup, on disks that a rack lends.
use Rattle.std.specs.Prelude.{◌≡◌, ◌≢◌, ◌⊎◌, ◌≤◌, ◌+◌, ◌-◌, ◌^◌, ◌++◌, ⊤, ℕ, min, Bool, true, false, IsTrue, List, [], Result, Ok, Err}
use Rattle.web_outside.specs.declared.nonces.Counting.{Counting}
use Rattle.web_disk.specs.View.{View, RackView, AreAmong, LeavesOnly}
use Rattle.web_disk.specs.declared.rack.RackFault.{RackFault}
use Rattle.web_disk.specs.declared.rack.RackFault.TheVariants as rack_fault
use Rattle.trio_rack.specs.Trios.{KeepsHome, shelves_of}
use Rattle.setup_reader.specs.Texts.{setup_of_texts}
use Rattle.page_follower.specs.OfShelf.JournalRecords.Records.{body_of, follows}
use Rattle.page_journal.specs.Holding.{Holdable, MayHold}
use Rattle.page_journal.specs.Records.{format_of, newest, stored}
use Rattle.page_journal.specs.Settled.{bodies_in}
use Rattle.replay_spec.specs.Book.{Book}
use Rattle.page_follower.specs.OfShelf.Following.{IsOpen, IsReadable}
use Rattle.page_follower.specs.OfShelf.JournalSpec.Bytes.{book_in_bytes}
use Rattle.page_follower.specs.OfShelf.JournalSpec.Making.{damaged, made_in, other}
use Rattle.page_follower.specs.OfShelf.JournalSpec.Standing.{Between, Held, HoldIn, StaysThroughout}
use Rattle.page_follower.specs.OfShelf.Migrating.{IsTooLongAnew}
use Rattle.page_follower.specs.OfShelf.Opening.{IsOfNow, KeepsRecords, TellsCause, bodies_after, disk_of, making_after, now_in_bytes}
use Rattle.page_follower.specs.OfShelf.Owning.{HasOwnImages, StaysOwnThroughout}
use Rattle.page_follower.specs.OfShelf.Reopening.{HoldsRenewed, IsLawful, KeepsBareDisk, OpensBare, TellsBareFault, bare_bodies, follows_by, opened_bare}
use Rattle.page_follower.specs.OfShelf.Views.{follows_in}
use Rattle.page_follower.specs.OfShelf.declared.begin.BeginFault.{BeginFault}
use Rattle.page_follower.specs.OfShelf.declared.shelf.Shelf.{Shelf}
use Rattle.play_steps.specs.Rules.{StaysUp}
use Rattle.play_desk.specs.Asking.{AsksForNone, AsksForOne, AsksForSome}
use Rattle.play_desk.specs.Opening.{GivesOne, IsOutside, TakesOne}
use Rattle.play_steps.specs.declared.stage.Reopen.{Reopen}
use Rattle.play_steps.specs.declared.stage.Reopen.TheVariants as reopen
use Rattle.server_command.specs.declared.feeding.Opening.{Opening}
use Rattle.server_command.specs.declared.feeding.Opening.TheVariants as opening
use Rattle.server_command.specs.Racks.{Racks, ShelfFailed}

-- ---- what the bytes of a disk make

-- whether a shelf that is opened without a setup is to follow another one's journal where its disks have no record
abbrev pub is_to_follow : Opening → Bool
is_to_follow opening.AsItIs = false
is_to_follow opening.ToFollow = true

-- The records of a shelf that is opened without a setup on these bytes: those that stay of what stands there, and where there is none and the shelf
-- is to follow, the one that tells this.
abbrev pub bare_records : (fed : Bool) → (shelf : ℕ) → List ℕ → List (List ℕ)
bare_records fed shelf image = bodies_after shelf image ++ bare_bodies fed (now_in_bytes shelf image)

-- Whether a shelf follows that is opened without a setup on these bytes.
abbrev pub follows_on : (fed : Bool) → (shelf : ℕ) → List ℕ → Bool
follows_on fed shelf image = follows_by (made_in (opened_bare fed shelf (now_in_bytes shelf image)))

-- The bytes are why a shelf is not opened on them without a setup, unless the outside failed. It asks for no empty disks.
abbrev pub IsUnfitBare : (shelf : ℕ) → List ℕ → Reopen → Type 0
IsUnfitBare shelf image reopen.Disk = ⊤
IsUnfitBare shelf image reopen.NotEmpty = ⊥
IsUnfitBare shelf image (reopen.Damaged place) = book_in_bytes setup_of_texts shelf image ≡ damaged place
IsUnfitBare shelf image (reopen.Other place) = book_in_bytes setup_of_texts shelf image ≡ other place
IsUnfitBare shelf image (reopen.Full n) = IsTooLongAnew (format_of image) shelf (stored image) n
IsUnfitBare shelf image reopen.Memory = ⊤

-- why disks were not taken
abbrev pub untaken_for : RackFault → Reopen
untaken_for rack_fault.Failed = reopen.Disk
untaken_for rack_fault.Memory = reopen.Memory

-- ---- what a crash leaves

-- Whatever records a disk might hold at first, with one in flight or without it, a crash at any moment leaves them so; where there are none, and the
-- shelf is to follow, that one is the record that tells it.
abbrev pub HoldsRecords : (fed : Bool) → (old new : View) → Type 0
HoldsRecords fed old new =
    (bodies : List (List ℕ)) (body : List ℕ) → Holdable bodies body → (fed ≡ true → bodies ≡ [] → body ≡ body_of follows)
    → ((image : List ℕ) → old.images image → MayHold newest bodies body image)
    → LeavesOnly old new (MayHold newest bodies body)

-- Whatever two books a disk stood between, a crash at any moment leaves it there, or one of them with a file of the newest format.
abbrev pub StaysOrRenews : (shelf : ℕ) → (old new : View) → Type 0
StaysOrRenews shelf old new =
    (before after : Book) (k : Between setup_of_texts shelf before after) → HoldIn k old.images
    → LeavesOnly old new (λ bytes. Held k bytes ⊎ (HoldsRenewed shelf before bytes ⊎ HoldsRenewed shelf after bytes))

-- What a crash at any moment leaves of a disk on which a shelf was opened without a setup, or was to be: in a file of the newest format the records
-- that stood there; what makes the books between which it stood, of an older format perhaps in a file of the newest; and own records, where it had
-- these.
pub record OpensSafely (fed : Bool) (shelf : ℕ) (old new : View) : Type 0 where
  pub records : IsOfNow old → HoldsRecords fed old new
  pub books : IsOfNow old → StaysThroughout setup_of_texts shelf old new
  pub anew : StaysOrRenews shelf old new
  pub own : HasOwnImages shelf old → StaysOwnThroughout shelf old new

-- ---- one shelf of a rack

-- Only the disks of this shelf were asked for, up to one of them or all, and only on them was written. Disks that are home stay so or come back, and
-- no count of faults fell.
pub record AsksOne (rack : Racks) (shelf : ℕ) : Type 0 where
  pub asked : AsksForSome shelf rack.before rack.after
  pub others : (n : ℕ) → n ≢ shelf → AreAmong ((shelves_of rack.after).holds n) ((shelves_of rack.before).holds n)
  pub home : KeepsHome rack.before rack.after
  pub later : rack.before.faults ≤ rack.after.faults
  pub failed_later : StaysUp (shelves_of rack.before).failed (shelves_of rack.after).failed

-- The disks of a shelf were taken from a rack and given back. What they might hold when they were taken the rack might hold before, and one of that
-- was read; what the rack may hold after that a crash might leave of them when they were given back.
pub record AreLent {D : Type 0} (view : D → View) (told : Type 0) (before after : RackView) (shelf : ℕ) (taken given : D) : Type 0 where
  pub among : told → AreAmong (view taken).images ((shelves_of before).holds shelf)
  pub reads : told → (view taken).images (view taken).seen
  pub left : told → AreAmong ((shelves_of after).holds shelf) (view given).images

-- Why a shelf was not opened without a setup, and what is left of its disks: they were not taken, and nothing was written on them; or they were, and
-- unless a call of one failed, nothing was lost on them and nothing added.
pub data IsShut {D : Type 0} (view : D → View) (told : Type 0) (fed : Bool) (before after : RackView) (shelf : ℕ) (why : Reopen) : Type 0 where
  untaken : IsOutside why → (told → AreAmong ((shelves_of after).holds shelf) ((shelves_of before).holds shelf))
      → IsShut view told fed before after shelf why
  refused : (taken given : D) → AreLent view told before after shelf taken given → (told → IsUnfitBare shelf (view taken).seen why)
      → (told → why ≢ reopen.Disk → KeepsRecords shelf [] (view taken) (view given))
      → (told → OpensSafely fed shelf (view taken) (view given)) → IsShut view told fed before after shelf why

-- A shelf was not opened without a setup. Its disk failed where that is told.
pub record StaysShut {D : Type 0} (view : D → View) (fed : Bool) (rack : Racks) (shelf : ℕ) (why : Reopen) : Type 0 where
  pub rest : AsksOne rack shelf
  pub failed : why ≡ reopen.Disk → ShelfFailed rack shelf
  pub shut : IsShut view (IsTrue rack.tells) fed rack.before rack.after shelf why

-- A shelf was opened without a setup, on disks that were taken for it: what stood there are lawful records, which make its book, if they make one,
-- and it has those that stay of them. Nothing was lost there, and nothing added but that the shelf follows.
pub record HasOpened {D : Type 0} (view : D → View) (tells : Bool) (fed : Bool) (rack : Racks) (shelf : ℕ) (s : Shelf D Counting) : Type 0 where
  pub taken : D
  pub asked : AsksForOne shelf rack.before rack.after
  pub takes : TakesOne shelf rack.before rack.after
  pub rack_later : rack.before.faults ≤ rack.after.faults
  pub among : IsTrue rack.tells → AreAmong (view taken).images ((shelves_of rack.before).holds shelf)
  pub reads : IsTrue rack.tells → (view taken).images (view taken).seen
  pub fresh : (view taken).faults ≡ 0
  pub number : s.rules.number ≡ shelf
  pub opens : IsOpen view tells s
  pub readable : IsReadable view tells s
  pub follows_is : IsTrue rack.tells → follows_in s ≡ follows_on fed shelf (view taken).seen
  pub records : IsTrue rack.tells → bodies_in view s.journal ≡ bare_records fed shelf (view taken).seen
  pub keeps : IsTrue rack.tells
      → KeepsRecords shelf (bare_bodies fed (making_after shelf (view taken))) (view taken) (view s.journal.disk)
  pub safely : IsTrue rack.tells → OpensSafely fed shelf (view taken) (view s.journal.disk)
  pub lawful : IsTrue rack.tells → IsLawful (making_after shelf (view taken))

-- What opening a shelf without a setup came to.
abbrev pub OpensOne : {D : Type 0} → (D → View) → (tells : Bool) → (fed : Bool) → Racks → (shelf : ℕ) → Result (Shelf D Counting) Reopen → Type 0
OpensOne view tells fed rack shelf (Ok s) = HasOpened view tells fed rack shelf s
OpensOne view tells fed rack shelf (Err why) = StaysShut view fed rack shelf why

-- The disks of a shelf were given back, which are this one; its faults count as the rack's, for this shelf.
pub record GivesBack {D : Type 0} (view : D → View) (told : Type 0) (shelf : ℕ) (disk : D) (before after : RackView) : Type 0 where
  pub gives : GivesOne shelf before after
  pub left : told → AreAmong ((shelves_of after).holds shelf) (view disk).images
  pub counted : (shelves_of before).failed shelf + (view disk).faults ≤ (shelves_of after).failed shelf
  pub counts : after.faults ≡ min (before.faults + (view disk).faults) (2 ^ 64 - 1)
  pub asked : AsksForNone before after
  pub later : before.faults ≤ after.faults

-- What opening a shelf without a setup on three disks came to, for each answer.
pub record OpensAs {D : Type 0} (view : D → View) (tells : Bool) (fed : Bool) (shelf : ℕ) (disk : D)
    (result : Result (Shelf D Counting) (BeginFault × D × Counting)) : Type 0 where
  pub opened : IsTrue tells → OpensBare view fed shelf disk result
  pub safely : IsTrue tells → OpensSafely fed shelf (view disk) (view (disk_of result))
  pub refused : IsTrue tells → TellsBareFault view shelf disk result
  pub keeps : IsTrue tells → KeepsBareDisk view fed shelf disk result
  pub cause : TellsCause view disk result
  pub later : (view disk).faults ≤ (view (disk_of result)).faults

-- A shelf was opened without a setup, on lawful records, these were read, and it was closed: all its disks were asked for, nothing was lost on them,
-- and nothing added.
pub record HasRead {D : Type 0} (view : D → View) (fed : Bool) (rack : Racks) (shelf : ℕ) : Type 0 where
  pub asked : AsksForOne shelf rack.before rack.after
  pub rest : AsksOne rack shelf
  pub taken : D
  pub given : D
  pub lent : AreLent view (IsTrue rack.tells) rack.before rack.after shelf taken given
  pub keeps : IsTrue rack.tells → KeepsRecords shelf [] (view taken) (view given)
  pub safely : IsTrue rack.tells → OpensSafely fed shelf (view taken) (view given)
  pub lawful : IsTrue rack.tells → IsLawful (making_after shelf (view taken))
