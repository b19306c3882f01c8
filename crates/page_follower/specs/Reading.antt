-- What the reader of a feed does.
use Rattle.std.specs.Prelude.{◌≡◌, ◌≤◌, ◌<◌, ◌++◌, ℕ, ◌+◌, ◌-◌, Bool, true, false, List, [], length, take, Option, Some, None, Result, Ok, Err}
use Rattle.std.specs.Io.KnownBytes.{Consumes, IsAtEnd}
use Rattle.std.specs.Global.{Vec}
use Rattle.shelf.specs.WebOutside.Causes.{Rose}
use Rattle.shelf.specs.WebOutside.View.{SourceView}
use Rattle.shelf.specs.WebOutside.Pieces.{ConsumesSome}
use Rattle.shelf.specs.WireBytes.Spelling.{u32_bytes}
use Rattle.shelf.specs.PageJournal.Records.{framed, behind}
use Rattle.page_follower.specs.Feed.{feed_head, most_of_feed, size_in}
use Rattle.page_follower.specs.declared.fault.FeedFault.{FeedFault}
use Rattle.page_follower.specs.declared.fault.FeedFault.TheVariants as fault
use Rattle.page_follower.specs.declared.reader.Compared.{Compared}
use Rattle.page_follower.specs.declared.reader.Compared.TheVariants as compared

-- ---- what came

-- these bytes came after so many, and up to so many
pub record Got (old new : SourceView) (before after : ℕ) (bytes : List ℕ) : Type 0 where
  pub consumed : Consumes old.left new.left bytes
  pub place : after ≡ before + length bytes
  pub later : old.faults ≤ new.faults

-- a record with this body came
abbrev pub Came : (old new : SourceView) → (before after : ℕ) → (body : List ℕ) → Type 0
Came old new before after body = Got old new before after (framed body)

-- the feed ended where a record might have begun
pub record Ended (old new : SourceView) (before after : ℕ) : Type 0 where
  pub got : Got old new before after []
  pub end : IsAtEnd new.left

-- ---- why none came

-- these bytes are the front of a record, and not all of it
abbrev pub IsShort : List ℕ → Type 0
IsShort bytes = length bytes < 4 + size_in bytes

-- the source gave fewer bytes than so many, and ended
pub record EndsEarly (old new : Option (List ℕ)) (size : ℕ) : Type 0 where
  pub rest : List ℕ
  pub consumed : Consumes old new rest
  pub short : length rest < size
  pub end : IsAtEnd new

-- with these bytes, which are so many or fewer, more came than a feed may have
pub record GoesPast (old new : Option (List ℕ)) (place size : ℕ) : Type 0 where
  pub bytes : List ℕ
  pub consumed : Consumes old new bytes
  pub past : most_of_feed < place + length bytes
  pub within : length bytes ≤ size

-- a read failed, after some bytes or none
pub record IsUnread (old new : SourceView) : Type 0 where
  pub consumed : ConsumesSome old.left new.left
  pub rose : Rose old.faults new.faults

-- a record is cut: some of it came, and then the source ended
pub record IsCut (old new : Option (List ℕ)) : Type 0 where
  pub rest : List ℕ
  pub consumed : Consumes old new rest
  pub some : 0 < length rest
  pub short : IsShort rest
  pub end : IsAtEnd new

-- more bytes came than a feed may have, and no whole record in so many as it may have; so many came before
pub record IsPast (old new : Option (List ℕ)) (place : ℕ) : Type 0 where
  pub bytes : List ℕ
  pub consumed : Consumes old new bytes
  pub past : most_of_feed < place + length bytes
  pub short : IsShort (take (most_of_feed - place) bytes)

-- the head is cut: a front of it came, and then the source ended
pub record IsHeadCut (old new : Option (List ℕ)) : Type 0 where
  pub rest : List ℕ
  pub missing : List ℕ
  pub consumed : Consumes old new rest
  pub is : feed_head ≡ rest ++ missing
  pub some : 0 < length missing
  pub end : IsAtEnd new

-- other bytes came than a feed begins with
pub record IsNoHead (old new : Option (List ℕ)) : Type 0 where
  pub bytes : List ℕ
  pub consumed : Consumes old new bytes
  pub other : behind feed_head bytes ≡ None
  pub no_front : behind bytes feed_head ≡ None

-- ---- what the reader's calls come to

-- why bytes were not read, after so many, of which so many or fewer were asked for
abbrev pub Fails : (old new : SourceView) → (place size : ℕ) → FeedFault → Type 0
Fails old new place size fault.Head = ⊥
Fails old new place size (fault.Cut p) = ⊥
Fails old new place size fault.Long = GoesPast old.left new.left place size
Fails old new place size fault.Failed = IsUnread old new
Fails old new place size fault.Memory = ⊥

-- the first of these bytes came, so many of them
pub record Gives (old new : SourceView) (before after : ℕ) (buffer : List ℕ) (count : ℕ) : Type 0 where
  pub got : Got old new before after (take count buffer)
  pub within : count ≤ length buffer

-- some bytes came into a buffer, none only at the end
pub record GivesSome (old new : SourceView) (before after : ℕ) (buffer : List ℕ) (count : ℕ) : Type 0 where
  pub gives : Gives old new before after buffer count
  pub end : count ≡ 0 → 0 < length buffer → IsAtEnd new.left

-- as many bytes came as a buffer has room for, fewer only at the end
pub record GivesFull (old new : SourceView) (before after : ℕ) (buffer : List ℕ) (count : ℕ) : Type 0 where
  pub gives : Gives old new before after buffer count
  pub end : count < length buffer → IsAtEnd new.left

-- what came of reading a piece
abbrev pub Reads : (old new : SourceView) → (before after : ℕ) → (buffer : List ℕ) → Result ℕ FeedFault → Type 0
Reads old new before after buffer (Ok count) = GivesSome old new before after buffer count
Reads old new before after buffer (Err f) = Fails old new before (length buffer) f

-- what came of filling a buffer
abbrev pub Fills : (old new : SourceView) → (before after : ℕ) → (buffer : List ℕ) → Result ℕ FeedFault → Type 0
Fills old new before after buffer (Ok count) = GivesFull old new before after buffer count
Fills old new before after buffer (Err f) = Fails old new before (length buffer) f

-- why no head came
abbrev pub NoHead : (old new : SourceView) → FeedFault → Type 0
NoHead old new fault.Head = IsNoHead old.left new.left
NoHead old new (fault.Cut p) = (p ≡ 0) × IsHeadCut old.left new.left
NoHead old new fault.Long = ⊥
NoHead old new fault.Failed = IsUnread old new
NoHead old new fault.Memory = ⊥

-- what came of reading the head
abbrev pub Heads : (old new : SourceView) → (before after : ℕ) → Result (Unit {0}) FeedFault → Type 0
Heads old new before after (Ok t) = Got old new before after feed_head
Heads old new before after (Err f) = NoHead old new f

-- why no record came, after so many bytes
abbrev pub NoRecord : (old new : SourceView) → (place : ℕ) → FeedFault → Type 0
NoRecord old new place fault.Head = ⊥
NoRecord old new place (fault.Cut p) = (p ≡ place) × IsCut old.left new.left
NoRecord old new place fault.Long = IsPast old.left new.left place
NoRecord old new place fault.Failed = IsUnread old new
NoRecord old new place fault.Memory = ConsumesSome old.left new.left

-- the length of a record's body came
pub record GotSize (old new : SourceView) (before after size : ℕ) : Type 0 where
  pub got : Got old new before after (u32_bytes size)
  pub fits : size < 4294967296

-- what came of reading the length of the next record
abbrev pub Sizes : (old new : SourceView) → (before after : ℕ) → Result (Option ℕ) FeedFault → Type 0
Sizes old new before after (Ok None) = Ended old new before after
Sizes old new before after (Ok (Some size)) = GotSize old new before after size
Sizes old new before after (Err f) = NoRecord old new before f

-- why a body of so many bytes did not come, whose record begins at `start`
abbrev pub NoBody : (old new : SourceView) → (place size start : ℕ) → FeedFault → Type 0
NoBody old new place size start fault.Head = ⊥
NoBody old new place size start (fault.Cut p) = (p ≡ start) × EndsEarly old.left new.left size
NoBody old new place size start fault.Long = GoesPast old.left new.left place size
NoBody old new place size start fault.Failed = IsUnread old new
NoBody old new place size start fault.Memory = ConsumesSome old.left new.left

-- a body of so many bytes came
pub record GotBody (old new : SourceView) (before after size : ℕ) (body : List ℕ) : Type 0 where
  pub got : Got old new before after body
  pub length_is : length body ≡ size

-- a body of so many bytes came, of which it was told whether it is this one
pub record GotOther (old new : SourceView) (before after size : ℕ) (held : List ℕ) : Type 0 where
  pub body : List ℕ
  pub got : GotBody old new before after size body
  pub other : held ≡ body → ⊥

-- what came of comparing a body
abbrev pub Matches : (old new : SourceView) → (before after size start : ℕ) → (held : List ℕ) → Result Bool FeedFault → Type 0
Matches old new before after size start held (Ok true) = GotBody old new before after size held
Matches old new before after size start held (Ok false) = GotOther old new before after size held
Matches old new before after size start held (Err f) = NoBody old new before size start f

-- What came of comparing a body that is read from a source with one that is held.
abbrev pub MatchesFrom : {S : Type 0} → (S → SourceView) → (old new : S) → (before after size start : ℕ) → (held : List ℕ)
    → Result Bool FeedFault → Type 0
MatchesFrom view old new before after size start held result = Matches (view old) (view new) before after size start held result

-- another record came than this one
pub record CameOther (old new : SourceView) (before after : ℕ) (held : List ℕ) : Type 0 where
  pub body : List ℕ
  pub came : Came old new before after body
  pub other : held ≡ body → ⊥

-- what came of comparing the next record with one that is held
abbrev pub Compares : (old new : SourceView) → (before after : ℕ) → (held : List ℕ) → Result Compared FeedFault → Type 0
Compares old new before after held (Ok compared.Same) = Came old new before after held
Compares old new before after held (Ok compared.Other) = CameOther old new before after held
Compares old new before after held (Ok compared.End) = Ended old new before after
Compares old new before after held (Err f) = NoRecord old new before f

-- what came of taking a body
abbrev pub Gathers : (old new : SourceView) → (before after size start : ℕ) → Result (Vec ℕ) FeedFault → Type 0
Gathers old new before after size start (Ok body) = GotBody old new before after size body.items
Gathers old new before after size start (Err f) = NoBody old new before size start f

-- what came of taking the next record
abbrev pub TakesNext : (old new : SourceView) → (before after : ℕ) → Result (Option (Vec ℕ)) FeedFault → Type 0
TakesNext old new before after (Ok None) = Ended old new before after
TakesNext old new before after (Ok (Some body)) = Came old new before after body.items
TakesNext old new before after (Err f) = NoRecord old new before f
