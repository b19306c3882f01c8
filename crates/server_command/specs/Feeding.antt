-- What sending a shelf's records, following those of a leader and promoting followers come to.
use Rattle.std.specs.Prelude.{⊤, ◌≡◌, ◌≢◌, ◌⊎◌, ◌<◌, ◌≤◌, ◌+◌, ◌^◌, ◌++◌, ◌∷◌, ℕ, Bool, true, false, List, [], length, IsTrue, Some, Result, Ok, Err, codes}
use Rattle.std.specs.Fmt.{decimal}
use Rattle.std.specs.Io.KnownBytes.{Appends}
use Rattle.script_value.specs.declared.outcome.Reply.{Reply}
use Rattle.script_value.specs.declared.outcome.Reply.TheVariants as reply
use Rattle.web_outside.specs.Causes.{Rose}
use Rattle.web_outside.specs.Pieces.{AppendsPart, IsCutShort}
use Rattle.web_outside.specs.View.{SinkView, SourceView}
use Rattle.web_disk.specs.View.{View, RackView, AreAmong, LeavesOnly}
use Rattle.trio_rack.specs.Trios.{shelves_of}
use Rattle.page_follower.specs.OfShelf.JournalRecords.Records.{body_of, promotes}
use Rattle.page_follower.specs.OfShelf.JournalRecords.Roles.{feed_of}
use Rattle.page_journal.specs.Holding.{MayHold}
use Rattle.page_journal.specs.Records.{at_rest, newest}
use Rattle.page_follower.specs.OfShelf.Opening.{HoldsAtRest, KeepsRecords, bodies_after, making_after}
use Rattle.page_follower.specs.OfShelf.Reopening.{IsLawful, bare_bodies}
use Rattle.page_follower.specs.Feed.{feed_with}
use Rattle.page_follower.specs.Held.{HasFollowed}
use Rattle.page_follower.specs.Moments.{HasFed, HasRested}
use Rattle.page_follower.specs.declared.fault.FeedFault.{FeedFault}
use Rattle.page_follower.specs.declared.fault.FeedFault.TheVariants as feed
use Rattle.page_follower.specs.declared.fault.FollowEnd.{FollowEnd}
use Rattle.page_follower.specs.declared.fault.FollowEnd.TheVariants as end
use Rattle.play_desk.specs.Asking.{AsksForFirst, AsksForOne, AsksUntil}
use Rattle.play_steps.specs.declared.stage.Reopen.{Reopen}
use Rattle.play_steps.specs.declared.stage.Reopen.TheVariants as reopen
use Rattle.server_command.specs.declared.program.Status.{Status}
use Rattle.server_command.specs.declared.program.Status.TheVariants as status
use Rattle.server_command.specs.Bare.{AsksOne, HasRead, AreLent, IsShut, OpensSafely, StaysShut, bare_records, follows_on}
use Rattle.server_command.specs.Output.{memory_line, PrintsTo, Sinks, Tells, sinks_of}
use Rattle.server_command.specs.Racks.{Racks, ShelfFailed, disk_line, full, unfit_line}
use Rattle.server_command.specs.Telling.{TellsUnopened, unopened_line, unopened_status}

-- ---- the lines

-- the line of a feed that is not followed on, at this place of it: `error 13 PLACE WORD`
abbrev pub feed_line : (place : ℕ) → (word : List ℕ) → List ℕ
feed_line place word = codes "error 13 " ++ (decimal place ++ 32 ∷ (word ++ 10 ∷ []))

-- the line of a shelf, which followed and was promoted, or did not follow
abbrev pub promoted_line : (shelf : ℕ) → (followed : Bool) → List ℕ
promoted_line shelf true = codes "shelf " ++ (decimal shelf ++ codes " promoted\n")
promoted_line shelf false = codes "shelf " ++ (decimal shelf ++ codes " leader\n")

-- the line of a shelf whose following ended so; none where each record is held, or a line could not be written
abbrev pub followed_line : (shelf : ℕ) → FollowEnd → List ℕ
followed_line shelf end.Held = []
followed_line shelf end.Promoted = feed_line 0 (codes "promoted")
followed_line shelf (end.Feed feed.Head) = feed_line 0 (codes "head")
followed_line shelf (end.Feed (feed.Cut place)) = feed_line place (codes "cut")
followed_line shelf (end.Feed feed.Long) = codes "error 11 long\n"
followed_line shelf (end.Feed feed.Failed) = codes "error 5 read\n"
followed_line shelf (end.Feed feed.Memory) = memory_line
followed_line shelf (end.Other place) = feed_line place (codes "other")
followed_line shelf (end.Record place) = feed_line place (codes "record")
followed_line shelf (end.Full n) = unfit_line shelf (full n)
followed_line shelf end.DiskFault = disk_line shelf
followed_line shelf end.Unwritten = []
followed_line shelf end.Memory = memory_line

-- the status of a command whose following ended so
abbrev pub followed_status : FollowEnd → Status
followed_status end.Held = status.Done
followed_status end.Promoted = status.Feed
followed_status (end.Feed feed.Head) = status.Feed
followed_status (end.Feed (feed.Cut place)) = status.Feed
followed_status (end.Feed feed.Long) = status.Long
followed_status (end.Feed feed.Failed) = status.Read
followed_status (end.Feed feed.Memory) = status.Memory
followed_status (end.Other place) = status.Feed
followed_status (end.Record place) = status.Feed
followed_status (end.Full n) = status.Journal
followed_status end.DiskFault = status.Disk
followed_status end.Unwritten = status.Write
followed_status end.Memory = status.Memory

-- The output tells how following ended; or there was no memory for the line; or all was done and could not be handed on.
pub data TellsFollowed (shelf : ℕ) (e : FollowEnd) (how : Status) (out : Sinks) : Type 0 where
  told : how ≡ followed_status e → PrintsTo out (followed_line shelf e) → TellsFollowed shelf e how out
  untold : how ≡ status.Memory → PrintsTo out memory_line → TellsFollowed shelf e how out
  kept_back : e ≡ end.Held → how ≡ status.Write → Appends out.held out.holds [] → Rose out.before out.after → TellsFollowed shelf e how out

-- the line of a feed was told, or there was no memory for it
abbrev pub TellsFeed : (line : List ℕ) → Status → Sinks → Type 0
TellsFeed line status.Feed out = PrintsTo out line
TellsFeed line status.Memory out = PrintsTo out memory_line
TellsFeed line _ out = ⊥

-- The output tells why a feed was not read on. It names no shelf.
abbrev pub TellsFeedFault : FeedFault → Status → Sinks → Type 0
TellsFeedFault fault how out = (shelf : ℕ) → TellsFollowed shelf (end.Feed fault) how out

-- why a shelf was not promoted
abbrev pub unpromoted_for : Reply → Reopen
unpromoted_for (reply.JournalFull n) = reopen.Full n
unpromoted_for (reply.Down count) = reopen.Disk
unpromoted_for (reply.DiskFault count) = reopen.Disk
unpromoted_for _ = reopen.Memory

-- ---- what is told of a shelf after a text

-- After this text it was told why a shelf was not opened or promoted, or that its disk failed; or there was no memory for its line.
pub data TellsBehind (text : List ℕ) (shelf : ℕ) (why : Reopen) (how : Status) (out : Sinks) : Type 0 where
  told_behind : (line : List ℕ) → unopened_line shelf why ≡ Some line → how ≡ unopened_status why → Tells text line out → TellsBehind text shelf why how out
  untold_behind : how ≡ status.Memory → Tells text memory_line out → TellsBehind text shelf why how out

-- the status is that of a shelf whose disk failed, or of want of memory
abbrev pub IsFailing : Status → Type 0
IsFailing how = (how ≡ status.Disk) ⊎ (how ≡ status.Memory)

-- ---- exporting

-- the feed of all records that stay of these bytes
abbrev pub feed_on : (shelf : ℕ) → List ℕ → List ℕ
feed_on shelf image = feed_with (feed_of (bodies_after shelf image))

-- a front of the feed was written, and then it was told that a disk of the shelf failed
abbrev pub TellsFailure : (feed : List ℕ) → (shelf : ℕ) → Status → Sinks → Type 0
TellsFailure feed shelf how out =
    (front : List ℕ) × (rest : List ℕ) × (feed ≡ front ++ rest) × TellsBehind front shelf reopen.Disk how out

-- What exporting leaves: the shelf was not opened; or the feed of all records that its disks held was written, and handed on; or a part of it, since a
-- write failed; or a part of it, since a disk failed, and this was told. Nothing was written on the disks but what an opening writes.
pub data LeavesExport {D : Type 0} (view : D → View) (rack : Racks) (shelf : ℕ) (how : Status) (out : Sinks) : Type 0 where
  unopened : (why : Reopen) → StaysShut view false rack shelf why → TellsUnopened shelf why how out → LeavesExport view rack shelf how out
  sent : (r : HasRead view false rack shelf) → how ≡ status.Done
      → (IsTrue rack.tells → Appends out.held out.holds (feed_on shelf (view r.taken).seen)) → LeavesExport view rack shelf how out
  unsent : (r : HasRead view false rack shelf) → how ≡ status.Write → Rose out.before out.after
      → (IsTrue rack.tells → AppendsPart out.held out.holds (feed_on shelf (view r.taken).seen)) → LeavesExport view rack shelf how out
  unread : (r : HasRead view false rack shelf) → ShelfFailed rack shelf → IsFailing how
      → (IsTrue rack.tells → TellsFailure (feed_on shelf (view r.taken).seen) shelf how out) → LeavesExport view rack shelf how out

-- ---- promoting

-- the lines of shelves from this number on, of each of which it is told whether it followed
abbrev pub promoted_text : (shelf : ℕ) → List Bool → List ℕ
promoted_text shelf [] = []
promoted_text shelf (followed ∷ later) = promoted_line shelf followed ++ promoted_text (shelf + 1) later

-- A shelf that was opened on these bytes was promoted, or was left alone as it did not follow: its disks have the records that stay of them, with the
-- one that tells this after them, all of it on the disk; or nothing was lost on them, and nothing added.
abbrev pub LeavesPromoted : (shelf : ℕ) → (followed : Bool) → (taken given : View) → Type 0
LeavesPromoted shelf true taken given = HoldsAtRest newest (bodies_after shelf taken.seen ++ body_of promotes ∷ []) given
LeavesPromoted shelf false taken given = KeepsRecords shelf [] taken given

-- a crash at any moment leaves the records that stay of what was read, with the one that tells the promotion after them or without it
abbrev pub PromotesSafely : (shelf : ℕ) → (taken opened given : View) → Type 0
PromotesSafely shelf taken opened given = LeavesOnly opened given (MayHold newest (bodies_after shelf taken.seen) (body_of promotes))

-- What became of a shelf of which it is told whether it followed.
pub record IsPromoted {D : Type 0} (view : D → View) (told : Type 0) (before after : RackView) (shelf : ℕ) (followed : Bool) : Type 0 where
  pub taken : D
  pub opened : D
  pub given : D
  pub lent : AreLent view told before after shelf taken given
  pub followed_is : told → followed ≡ follows_on false shelf (view taken).seen
  pub opens : told → OpensSafely false shelf (view taken) (view opened)
  pub safely : told → followed ≡ true → PromotesSafely shelf (view taken) (view opened) (view given)
  pub quiet : told → followed ≡ false → OpensSafely false shelf (view taken) (view given)
  pub left : told → LeavesPromoted shelf followed (view taken) (view given)
  pub lawful : told → IsLawful (making_after shelf (view taken))

-- each shelf from this number on was promoted, or did not follow
abbrev pub ArePromoted : {D : Type 0} → (D → View) → (told : Type 0) → (before after : RackView) → (shelf : ℕ) → List Bool → Type 0
ArePromoted view known before after shelf [] = ⊤
ArePromoted view known before after shelf (followed ∷ later) =
    IsPromoted view known before after shelf followed × ArePromoted view known before after (shelf + 1) later

-- nothing was written on the disks of the shelves from this number on
abbrev pub LeavesFrom : (first : ℕ) → (before after : RackView) → Type 0
LeavesFrom first before after = (n : ℕ) → first ≤ n → AreAmong ((shelves_of after).holds n) ((shelves_of before).holds n)

-- The first shelves were promoted, or did not follow. Their disks were asked for, shelf by shelf and in order, and no others.
pub record HavePromoted {D : Type 0} (view : D → View) (rack : Racks) (followed : List Bool) : Type 0 where
  pub each : ArePromoted view (IsTrue rack.tells) rack.before rack.after 0 followed
  pub behind : LeavesFrom (length followed) rack.before rack.after
  pub asked : AsksForFirst (length followed) rack.before rack.after
  pub later : rack.before.faults ≤ rack.after.faults

-- why a shelf that follows is not promoted, which has these records: with the one that tells it its journal would be too long; or the outside failed
abbrev pub CannotPromote : List (List ℕ) → Reopen → Type 0
CannotPromote bodies reopen.Disk = ⊤
CannotPromote bodies reopen.NotEmpty = ⊥
CannotPromote bodies (reopen.Damaged place) = ⊥
CannotPromote bodies (reopen.Other place) = ⊥
CannotPromote bodies (reopen.Full n) = (n ≡ length (at_rest bodies) + 6) × (2 ^ 30 < n)
CannotPromote bodies reopen.Memory = ⊤

-- A shelf was opened and follows, and was not promoted. Unless a call of its disks failed, nothing was lost on them, and nothing added: a crash at any
-- moment since the opening leaves the records that stay of what was read, and no other.
pub record IsUnpromoted {D : Type 0} (view : D → View) (told : Type 0) (before after : RackView) (shelf : ℕ) (why : Reopen) : Type 0 where
  pub taken : D
  pub opened : D
  pub given : D
  pub lent : AreLent view told before after shelf taken given
  pub followed : told → follows_on false shelf (view taken).seen ≡ true
  pub cannot : told → CannotPromote (bodies_after shelf (view taken).seen) why
  pub opens : told → OpensSafely false shelf (view taken) (view opened)
  pub safely : told → PromotesSafely shelf (view taken) (view opened) (view given)
  pub rests : told → why ≢ reopen.Disk → HasRested (view opened) (view given) (bodies_after shelf (view taken).seen)
  pub keeps : told → why ≢ reopen.Disk → KeepsRecords shelf [] (view taken) (view given)

-- Of so many shelves those in front of this one were promoted, or did not follow. Then the disks of this one were asked for, up to one of them or all,
-- and no others: it was not opened, or not promoted, or there was no memory to tell of it.
pub record HaveComeTo {D : Type 0} (view : D → View) (rack : Racks) (count : ℕ) (followed : List Bool) : Type 0 where
  pub low : length followed < count
  pub each : ArePromoted view (IsTrue rack.tells) rack.before rack.after 0 followed
  pub behind : LeavesFrom (length followed + 1) rack.before rack.after
  pub asked : AsksUntil count (length followed) rack.before rack.after
  pub later : rack.before.faults ≤ rack.after.faults

-- The shelf after those was not opened or not promoted, for this.
pub record StopsAtShelf {D : Type 0} (view : D → View) (rack : Racks) (count : ℕ) (followed : List Bool) (why : Reopen) : Type 0 where
  pub come : HaveComeTo view rack count followed
  pub failed : why ≡ reopen.Disk → ShelfFailed rack (length followed)
  pub stops : IsShut view (IsTrue rack.tells) false rack.before rack.after (length followed) why
      ⊎ IsUnpromoted view (IsTrue rack.tells) rack.before rack.after (length followed) why

-- What promoting leaves: the lines of all shelves; or those of the first, of which the last could not be written whole, or handed on; or those of the
-- first, and why the next one was not promoted; or those of the first, of which there was no memory for the last.
pub data LeavesPromotes {D : Type 0} (view : D → View) (rack : Racks) (count : ℕ) (how : Status) (out : Sinks) : Type 0 where
  all_told : (followed : List Bool) → HavePromoted view rack followed → length followed ≡ count → how ≡ status.Done
      → Appends out.held out.holds (promoted_text 0 followed) → LeavesPromotes view rack count how out
  cut_short : (followed : List Bool) → HavePromoted view rack followed → length followed ≤ count → how ≡ status.Write → Rose out.before out.after
      → AppendsPart out.held out.holds (promoted_text 0 followed) → LeavesPromotes view rack count how out
  stopped : (followed : List Bool) (why : Reopen) → StopsAtShelf view rack count followed why
      → TellsBehind (promoted_text 0 followed) (length followed) why how out → LeavesPromotes view rack count how out
  not_told : (followed : List Bool) (last : Bool) → HavePromoted view rack (followed ++ last ∷ []) → length followed < count → how ≡ status.Memory
      → Tells (promoted_text 0 followed) memory_line out → LeavesPromotes view rack count how out

-- a shelf's line was told; or it was cut short; or there was no memory for it
abbrev pub TellsPromoted : (shelf : ℕ) → (followed : Bool) → Result ⊤ Status → Sinks → Type 0
TellsPromoted shelf followed (Ok done) out = Appends out.held out.holds (promoted_line shelf followed)
TellsPromoted shelf followed (Err status.Write) out = Rose out.before out.after × IsCutShort out.held out.holds (promoted_line shelf followed)
TellsPromoted shelf followed (Err status.Memory) out = PrintsTo out memory_line
TellsPromoted shelf followed (Err how) out = ⊥

-- What promoting one shelf came to: it followed or not; or it was not opened, or not promoted.
abbrev pub PromotesOne : {D : Type 0} → (D → View) → Racks → (shelf : ℕ) → Result Bool Reopen → Type 0
PromotesOne view rack shelf (Ok followed) =
    AsksForOne shelf rack.before rack.after × IsPromoted view (IsTrue rack.tells) rack.before rack.after shelf followed
PromotesOne view rack shelf (Err why) =
    (why ≡ reopen.Disk → ShelfFailed rack shelf)
    × (IsShut view (IsTrue rack.tells) false rack.before rack.after shelf why
    ⊎ IsUnpromoted view (IsTrue rack.tells) rack.before rack.after shelf why)

-- ---- following

-- A shelf that follows was opened, on disks that were taken for it, and closed, after which they were given back.
pub record WasFed {D : Type 0} (view : D → View) (rack : Racks) (shelf : ℕ) : Type 0 where
  pub asked : AsksForOne shelf rack.before rack.after
  pub rest : AsksOne rack shelf
  pub taken : D
  pub opened : D
  pub given : D
  pub lent : AreLent view (IsTrue rack.tells) rack.before rack.after shelf taken given
  pub follows_is : IsTrue rack.tells → follows_on true shelf (view taken).seen ≡ true
  pub begun : IsTrue rack.tells → KeepsRecords shelf (bare_bodies true (making_after shelf (view taken))) (view taken) (view opened)
  pub opens : IsTrue rack.tells → OpensSafely true shelf (view taken) (view opened)

-- The records of a shelf that follows were compared with a feed, and it was fed those after them, while its disks were these. At each moment a crash
-- leaves the records that it had, and the first of those that it was fed after them, at least those that were acknowledged by then.
abbrev pub FollowsOn : {D : Type 0} → (D → View) → (shelf : ℕ) → (taken opened given : D) → (from left : SourceView) → (old told : SinkView)
    → (holds : List (List ℕ)) → FollowEnd → Type 0
FollowsOn view shelf taken opened given from left old between holds e =
    HasFollowed (HasFed view (bare_records true shelf (view taken).seen) opened given) from left old between
    (bare_records true shelf (view taken).seen) holds e

-- the cause of an end that tells a fault of the outside: a disk of the shelf failed, or the input, or the output
pub record HasReason (rack : Racks) (shelf : ℕ) (from left : SourceView) (old told : SinkView) (e : FollowEnd) : Type 0 where
  pub disk : e ≡ end.DiskFault → ShelfFailed rack shelf
  pub input : e ≡ end.Feed feed.Failed → Rose from.faults left.faults
  pub output : e ≡ end.Unwritten → Rose old.faults told.faults
  pub later : old.faults ≤ told.faults

-- What following a feed leaves: the shelf was not opened; or it does not follow, and nothing was read of the feed; or it was compared with the feed,
-- and was fed what it did not hold.
pub data LeavesFollow {D : Type 0} (view : D → View) (rack : Racks) (shelf : ℕ) (how : Status) (from left : SourceView) (old new : SinkView) : Type 0 where
  not_opened : (why : Reopen) → StaysShut view true rack shelf why → left ≡ from → TellsUnopened shelf why how (sinks_of old new)
      → LeavesFollow view rack shelf how from left old new
  leads : (r : HasRead view true rack shelf) → (IsTrue rack.tells → follows_on true shelf (view r.taken).seen ≡ false) → left ≡ from
      → TellsFollowed shelf end.Promoted how (sinks_of old new) → LeavesFollow view rack shelf how from left old new
  followed : (f : WasFed view rack shelf) (told : SinkView) (holds : List (List ℕ)) (e : FollowEnd)
      → (IsTrue rack.tells → FollowsOn view shelf f.taken f.opened f.given from left old told holds e)
      → HasReason rack shelf from left old told e → told.faults ≤ new.faults
      → TellsFollowed shelf e how (sinks_of told new) → LeavesFollow view rack shelf how from left old new
