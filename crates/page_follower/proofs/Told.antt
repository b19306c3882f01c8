-- What a follower did with a feed, by less that is told of its disk.
use Rattle.std.proofs.Common.{ℕ, List}
use Rattle.shelf.specs.WebOutside.View.{SinkView}
use Rattle.page_follower.specs.Comparing.{Progress}
use Rattle.page_follower.specs.Held.{HasAdopted}
use Rattle.page_follower.specs.Moments.{Moments, Offer}
use Rattle.page_follower.specs.declared.fault.FollowEnd.{FollowEnd}

-- whatever is told by the one is told by the other
abbrev pub TellsLess : (Told Less : Moments) → Type 0
TellsLess Told Less =
    (sink : SinkView) (acks : ℕ) (more : List (List ℕ)) (told : SinkView) (offer : Offer) → Told sink acks more told offer
    → Less sink acks more told offer

module _ (Told Less : Moments) (less : TellsLess Told Less) where
  -- where records were adopted
  pub adopted_by_less : (old new : Progress) (held holds : List (List ℕ)) (e : FollowEnd) → HasAdopted Told old new held holds e
      → HasAdopted Less old new held holds e
  adopted_by_less old new held holds e p = record {
    more = p.more;
    mid = p.mid;
    acked = p.acked;
    offer = p.offer;
    stops = p.stops;
    told = less _ _ _ _ _ p.told;
  }
