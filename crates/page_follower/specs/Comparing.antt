-- How a follower compares the records that it holds with a feed, one by one.
use Rattle.std.specs.Prelude.{◌≡◌, ◌≤◌, ℕ, ◌+◌, Bool, true, false, List, Option, Some, None}
use Rattle.shelf.specs.WebOutside.View.{SourceView, SinkView}
use Rattle.shelf.specs.JournalRecords.Roles.{is_role}
use Rattle.page_follower.specs.Acks.{IsAcked, IsUnacked}
use Rattle.page_follower.specs.Reading.{Came, CameOther, Ended, NoRecord}
use Rattle.page_follower.specs.declared.comparer.Comparer.{Comparer}
use Rattle.page_follower.specs.declared.fault.FeedFault.{FeedFault}
use Rattle.page_follower.specs.declared.fault.FollowEnd.{FollowEnd}
use Rattle.page_follower.specs.declared.fault.FollowEnd.TheVariants as end

-- where a follower stands in a feed: the source and the output as they are seen, how many bytes of the feed came, how many records were
-- acknowledged, and how following ended, if it did
pub record Progress : Type 0 where
  pub source : SourceView
  pub sink : SinkView
  pub place : ℕ
  pub acks : ℕ
  pub ending : Option FollowEnd

-- where a comparer stands
abbrev pub progress : {S O : Type 0} → (S → SourceView) → (O → SinkView) → Comparer S O → Progress
progress source sink c = record {
  source = source c.source.now;
  sink = sink c.sink.now;
  place = c.reader.place;
  acks = c.acks;
  ending = c.ending;
}

-- two comparers hold the same source and output
abbrev pub HoldsTheSame : {S O : Type 0} → Comparer S O → Comparer S O → Type 0
HoldsTheSame old new = (new.source.ghost_name ≡ old.source.ghost_name) × (new.sink.ghost_name ≡ old.sink.ghost_name)

-- nothing more of the feed came
pub record StaysInFeed (old new : Progress) : Type 0 where
  pub source : new.source ≡ old.source
  pub place : new.place ≡ old.place

-- a record was acknowledged
pub record Acks (old new : Progress) : Type 0 where
  pub stays : StaysInFeed old new
  pub acked : IsAcked old.sink new.sink new.acks
  pub acks : new.acks ≡ old.acks + 1

-- a record was not acknowledged, since a write failed
pub record AcksNot (old new : Progress) : Type 0 where
  pub stays : StaysInFeed old new
  pub unacked : IsUnacked old.sink new.sink (old.acks + 1)
  pub acks : new.acks ≡ old.acks

-- what came of acknowledging a record
abbrev pub Tells : (old new : Progress) → Option FollowEnd → Type 0
Tells old new None = Acks old new
Tells old new (Some end.Held) = ⊥
Tells old new (Some end.Promoted) = ⊥
Tells old new (Some (end.Feed f)) = ⊥
Tells old new (Some (end.Other place)) = ⊥
Tells old new (Some (end.Record place)) = ⊥
Tells old new (Some (end.Full len)) = ⊥
Tells old new (Some end.DiskFault) = ⊥
Tells old new (Some end.Unwritten) = AcksNot old new
Tells old new (Some end.Memory) = ⊥

-- the record of this body is held, and was acknowledged
pub record Acknowledges (old new : Progress) (body : List ℕ) : Type 0 where
  pub came : Came old.source new.source old.place new.place body
  pub acked : IsAcked old.sink new.sink new.acks
  pub acks : new.acks ≡ old.acks + 1

-- the record of this body is held, and was not acknowledged, since a write failed
pub record FailsToAcknowledge (old new : Progress) (body : List ℕ) : Type 0 where
  pub came : Came old.source new.source old.place new.place body
  pub unacked : IsUnacked old.sink new.sink (old.acks + 1)
  pub acks : new.acks ≡ old.acks

-- nothing was acknowledged
pub record TellsNothing (old new : Progress) : Type 0 where
  pub sink : new.sink ≡ old.sink
  pub acks : new.acks ≡ old.acks

-- no record came, for this reason
pub record FindsNone (old new : Progress) (f : FeedFault) : Type 0 where
  pub none : NoRecord old.source new.source old.place f
  pub tells : TellsNothing old new
  pub later : old.source.faults ≤ new.source.faults

-- the feed had ended
pub record FindsEnd (old new : Progress) : Type 0 where
  pub ended : Ended old.source new.source old.place new.place
  pub tells : TellsNothing old new

-- another record came than the one that is held, at this place
pub record FindsOther (old new : Progress) (body : List ℕ) (place : ℕ) : Type 0 where
  pub came : CameOther old.source new.source old.place new.place body
  pub place_is : place ≡ old.place
  pub tells : TellsNothing old new

-- a record that is held came, or why it did not
abbrev pub Compares : (old new : Progress) → (body : List ℕ) → Option FollowEnd → Type 0
Compares old new body None = Acknowledges old new body
Compares old new body (Some end.Held) = FindsEnd old new
Compares old new body (Some end.Promoted) = ⊥
Compares old new body (Some (end.Feed f)) = FindsNone old new f
Compares old new body (Some (end.Other place)) = FindsOther old new body place
Compares old new body (Some (end.Record place)) = ⊥
Compares old new body (Some (end.Full len)) = ⊥
Compares old new body (Some end.DiskFault) = ⊥
Compares old new body (Some end.Unwritten) = FailsToAcknowledge old new body
Compares old new body (Some end.Memory) = ⊥

-- One record more that is held, where following had ended or not: after its end nothing is done, and a record that tells whether the shelf
-- follows is in no feed.
abbrev pub GoesOn : Option FollowEnd → (role : Bool) → (old new : Progress) → (body : List ℕ) → Type 0
GoesOn (Some e) role old new body = new ≡ old
GoesOn None true old new body = new ≡ old
GoesOn None false old new body = Compares old new body new.ending

-- a comparer takes one record more, and goes on with the same source and output
abbrev pub ComparerTakes : {S O : Type 0} → (S → SourceView) → (O → SinkView) → Comparer S O → ℕ → List ℕ → Comparer S O → Type 0
ComparerTakes source sink old place body new =
    HoldsTheSame old new × GoesOn old.ending (is_role body) (progress source sink old) (progress source sink new) body
