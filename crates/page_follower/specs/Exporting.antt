-- How the records of a journal are written as a feed.
use Rattle.std.specs.Prelude.{◌≤◌, ℕ, List, Result, Ok, Err}
use Rattle.shelf.specs.WebOutside.View.{SinkView}
use Rattle.shelf.specs.WebOutside.Pieces.{AppendsPart, HandsOn}
use Rattle.shelf.specs.JournalRecords.Roles.{feed_of}
use Rattle.page_follower.specs.Feed.{fed, feed_with}
use Rattle.page_follower.specs.Sending.{Writes, WritesPart}
use Rattle.page_follower.specs.declared.exporting.ExportFault.{ExportFault}
use Rattle.page_follower.specs.declared.exporting.ExportFault.TheVariants as fault

-- these bytes were written and handed on
pub record WritesAndHandsOn (old new : SinkView) (bytes : List ℕ) : Type 0 where
  pub writes : Writes old new bytes
  pub handed : HandsOn new.written new.handed

-- a part of these bytes was written, or all
pub record WritesSome (old new : SinkView) (bytes : List ℕ) : Type 0 where
  pub written : AppendsPart old.written new.written bytes
  pub later : old.faults ≤ new.faults

-- what sending the records of a journal came to: all were sent; or a part, since a call of the disk failed, or a write
abbrev pub SendsAll : (old new : SinkView) → (bodies : List (List ℕ)) → Result (Unit {0}) ExportFault → Type 0
SendsAll old new bodies (Ok x) = Writes old new (fed (feed_of bodies))
SendsAll old new bodies (Err fault.DiskFault) = WritesSome old new (fed (feed_of bodies))
SendsAll old new bodies (Err fault.Unwritten) = WritesPart old new (fed (feed_of bodies))

-- what exporting the records of a journal came to: the whole feed was written and handed on; or a part of it, since a call of the disk failed, or a
-- write or the flush
abbrev pub Exports : (old new : SinkView) → (bodies : List (List ℕ)) → Result (Unit {0}) ExportFault → Type 0
Exports old new bodies (Ok x) = WritesAndHandsOn old new (feed_with (feed_of bodies))
Exports old new bodies (Err fault.DiskFault) = WritesSome old new (feed_with (feed_of bodies))
Exports old new bodies (Err fault.Unwritten) = WritesPart old new (feed_with (feed_of bodies))
