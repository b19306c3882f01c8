-- What a follower holds after a feed, and how much of it was acknowledged.
use Rattle.std.specs.Prelude.{◌≡◌, ◌≤◌, ◌<◌, ◌++◌, ◌∷◌, ℕ, ◌+◌, List, [], length, Option, Some, None}
use Rattle.std.specs.Io.KnownBytes.{Appends}
use Rattle.shelf.specs.WebOutside.View.{SourceView, SinkView}
use Rattle.shelf.specs.WebOutside.Pieces.{HandsOn}
use Rattle.shelf.specs.WebDisk.View.{View}
use Rattle.shelf.specs.JournalRecords.Roles.{feed_of}
use Rattle.page_follower.specs.Acks.{acks_behind, IsUnacked}
use Rattle.page_follower.specs.Comparing.{Progress, Acknowledges, Compares, FindsEnd, FindsNone, TellsNothing}
use Rattle.page_follower.specs.Feed.{feed_head, fed}
use Rattle.page_follower.specs.Moments.{HasGained, AreFed, IsFedOn, IsOffered, Moments, Offer, no_record, refused_record, written_record}
use Rattle.page_follower.specs.Reading.{Came, Got, NoHead}
use Rattle.page_follower.specs.declared.fault.FeedFault.{FeedFault}
use Rattle.page_follower.specs.declared.fault.FollowEnd.{FollowEnd}
use Rattle.page_follower.specs.declared.fault.FollowEnd.TheVariants as end

-- these records of the feed came, each is held, and each was acknowledged
pub record HasAcked (old new : Progress) (bodies : List (List ℕ)) : Type 0 where
  pub got : Got old.source new.source old.place new.place (fed bodies)
  pub written : Appends old.sink.written new.sink.written (acks_behind old.acks (length bodies))
  pub handed : 0 < length bodies → HandsOn new.sink.written new.sink.handed
  pub still_handed : HandsOn old.sink.written old.sink.handed → HandsOn new.sink.written new.sink.handed
  pub acks : new.acks ≡ old.acks + length bodies
  pub later : old.sink.faults ≤ new.sink.faults

-- How following came to its end at a record that is held, the first of these, or goes on where there are no more.
abbrev pub StopsComparing : (mid new : Progress) → (rest : List (List ℕ)) → Option FollowEnd → Type 0
StopsComparing mid new [] None = new ≡ mid
StopsComparing mid new [] (Some e) = ⊥
StopsComparing mid new (h ∷ rest) None = ⊥
StopsComparing mid new (h ∷ rest) (Some e) = Compares mid new h (Some e)

-- The records that are held were compared with those of the feed: the first of them are the same and were acknowledged, and it is told what came of
-- the next one.
pub record HasCompared (old new : Progress) (held : List (List ℕ)) : Type 0 where
  pub same : List (List ℕ)
  pub rest : List (List ℕ)
  pub all : held ≡ same ++ rest
  pub mid : Progress
  pub acked : HasAcked old mid same
  pub stops : StopsComparing mid new rest new.ending

-- nothing came of the record that was offered: it was refused, it is not held, and nothing was acknowledged
pub record IsRefused (mid new : Progress) (offer : Offer) (held holds : List (List ℕ)) : Type 0 where
  pub body : List ℕ
  pub offers : offer ≡ refused_record body
  pub came : Came mid.source new.source mid.place new.place body
  pub tells : TellsNothing mid new
  pub stays : holds ≡ held

-- A record was offered that the disk has or has not, since a call of it failed. Nothing was acknowledged.
pub record IsInDoubt (mid new : Progress) (offer : Offer) : Type 0 where
  pub body : List ℕ
  pub offers : offer ≡ written_record body
  pub came : Came mid.source new.source mid.place new.place body
  pub tells : TellsNothing mid new

-- the record that was offered is held, and was not acknowledged, since a write failed
pub record IsUntold (mid new : Progress) (offer : Offer) (held holds : List (List ℕ)) : Type 0 where
  pub body : List ℕ
  pub offers : offer ≡ written_record body
  pub came : Came mid.source new.source mid.place new.place body
  pub unacked : IsUnacked mid.sink new.sink (mid.acks + 1)
  pub acks : new.acks ≡ mid.acks
  pub grows : holds ≡ held ++ body ∷ []

-- the feed had ended, and no record was offered
pub record IsEnded (mid new : Progress) (offer : Offer) (held holds : List (List ℕ)) : Type 0 where
  pub offers : offer ≡ no_record
  pub ended : FindsEnd mid new
  pub stays : holds ≡ held

-- no record came, for this reason, and none was offered
pub record IsUnfed (mid new : Progress) (f : FeedFault) (offer : Offer) (held holds : List (List ℕ)) : Type 0 where
  pub offers : offer ≡ no_record
  pub finds : FindsNone mid new f
  pub stays : holds ≡ held

-- how following came to its end after the records that are held, by the record that was offered, if one was, and by those that are held before
-- and now
abbrev pub StopsAdopting : (mid new : Progress) → (offer : Offer) → (held holds : List (List ℕ)) → FollowEnd → Type 0
StopsAdopting mid new offer held holds end.Held = IsEnded mid new offer held holds
StopsAdopting mid new offer held holds end.Promoted = ⊥
StopsAdopting mid new offer held holds (end.Feed f) = IsUnfed mid new f offer held holds
StopsAdopting mid new offer held holds (end.Other place) = ⊥
StopsAdopting mid new offer held holds (end.Record place) = (place ≡ mid.place) × IsRefused mid new offer held holds
StopsAdopting mid new offer held holds (end.Full len) = IsRefused mid new offer held holds
StopsAdopting mid new offer held holds end.DiskFault = IsInDoubt mid new offer
StopsAdopting mid new offer held holds end.Unwritten = IsUntold mid new offer held holds
StopsAdopting mid new offer held holds end.Memory = IsRefused mid new offer held holds

-- The records of the feed after those that are held: the first of them were adopted and acknowledged, and it is told what came of the next one,
-- and what a crash may leave of the disk.
pub record HasAdopted (Told : Moments) (old new : Progress) (held holds : List (List ℕ)) (e : FollowEnd) : Type 0 where
  pub more : List (List ℕ)
  pub mid : Progress
  pub acked : HasAcked old mid more
  pub offer : Offer
  pub stops : StopsAdopting mid new offer (held ++ more) holds e
  pub told : Told old.sink old.acks more mid.sink offer

-- What came of the next record of the feed after those that are held: it was adopted and acknowledged, or following came to its end.
abbrev pub AdoptsNext : {D : Type 0} → (D → View) → (old new : Progress) → (before after : D) → (held holds : List (List ℕ)) → Option FollowEnd → Type 0
AdoptsNext view old new before after held holds None =
    (body : List ℕ) × Acknowledges old new body × (holds ≡ held ++ body ∷ []) × HasGained (view before) (view after) held body
AdoptsNext view old new before after held holds (Some e) =
    (offer : Offer) × StopsAdopting old new offer held holds e × IsOffered view held before offer after

-- records were adopted and acknowledged, and following goes on
pub record GoesOnAdopting {D : Type 0} (view : D → View) (old new : Progress) (before after : D) (held holds : List (List ℕ)) : Type 0 where
  pub more : List (List ℕ)
  pub acked : HasAcked old new more
  pub grows : holds ≡ held ++ more
  pub are_fed : AreFed view held before old.sink old.acks more new.sink after

-- what was adopted so far, by how following ended
abbrev pub Adopting : {D : Type 0} → (D → View) → (old new : Progress) → (before after : D) → (held holds : List (List ℕ)) → Option FollowEnd → Type 0
Adopting view old new before after held holds None = GoesOnAdopting view old new before after held holds
Adopting view old new before after held holds (Some e) = HasAdopted (IsFedOn view held before after) old new held holds e

-- the head of the feed came, or why not
abbrev pub Begins : (source : SourceView) → (sink : SinkView) → (new : Progress) → Option FollowEnd → Type 0
Begins source sink new None = Got source new.source 0 new.place feed_head × ((new.sink ≡ sink) × (new.acks ≡ 0))
Begins source sink new (Some (end.Feed f)) = NoHead source new.source f × ((new.sink ≡ sink) × (new.acks ≡ 0))
Begins source sink new (Some end.Held) = ⊥
Begins source sink new (Some end.Promoted) = ⊥
Begins source sink new (Some (end.Other place)) = ⊥
Begins source sink new (Some (end.Record place)) = ⊥
Begins source sink new (Some (end.Full len)) = ⊥
Begins source sink new (Some end.DiskFault) = ⊥
Begins source sink new (Some end.Unwritten) = ⊥
Begins source sink new (Some end.Memory) = ⊥

-- no record was adopted, and it is told what a crash may leave of the disk
abbrev pub AdoptsNone : (Told : Moments) → (new : Progress) → (held holds : List (List ℕ)) → Type 0
AdoptsNone Told new held holds = (holds ≡ held) × Told new.sink new.acks [] new.sink no_record

-- What a follower did with a feed after its head, whose file held these records and holds those now. A call of the disk failed while it compared
-- those that it held; or it compared them up to the end; or it adopted those after them.
pub data Feeds (Told : Moments) (begun new : Progress) (held holds : List (List ℕ)) (e : FollowEnd) : Type 0 where
  unread : (done rest : List (List ℕ)) → held ≡ done ++ rest → HasCompared begun new (feed_of done) → e ≡ end.DiskFault → AdoptsNone Told new held holds
      → Feeds Told begun new held holds e
  compared : HasCompared begun new (feed_of held) → new.ending ≡ Some e → AdoptsNone Told new held holds → Feeds Told begun new held holds e
  adopted : (between : Progress) → HasCompared begun between (feed_of held) → between.ending ≡ None → HasAdopted Told between new held holds e
      → Feeds Told begun new held holds e

-- what a follower did with a feed: there was no head; or it was fed after it
pub data Follows (Told : Moments) (source : SourceView) (sink : SinkView) (held holds : List (List ℕ)) (new : Progress) (e : FollowEnd) : Type 0 where
  headless : Begins source sink new (Some e) → AdoptsNone Told new held holds → Follows Told source sink held holds new e
  fed_behind : (begun : Progress) → Begins source sink begun None → Feeds Told begun new held holds e → Follows Told source sink held holds new e

-- what a follower did with a feed, by what contracts see of the source and the output before and now, and by what is told of its disk
pub record HasFollowed (Told : Moments) (source left : SourceView) (sink told : SinkView) (held holds : List (List ℕ)) (e : FollowEnd) : Type 0 where
  pub new : Progress
  pub source_is : left ≡ new.source
  pub sink_is : told ≡ new.sink
  pub follows : Follows Told source sink held holds new e
