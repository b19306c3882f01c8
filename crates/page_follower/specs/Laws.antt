-- Laws of feeds.
use Rattle.std.specs.Prelude.{◌≡◌, ◌<◌, ◌≤◌, ◌++◌, ℕ, ◌+◌, ◌^◌, List, length}
use Rattle.std.specs.List.{AllByRecursion as Each}
use Rattle.shelf.specs.WebOutside.View.{SinkView}
use Rattle.shelf.specs.WebDisk.View.{AreAmong, View, LeavesOnly}
use Rattle.shelf.specs.PageJournal.Records.{Intact, at_rest, records}
use Rattle.page_follower.specs.Feed.{feed_with, feed_in, complete, cut, most_of_feed}
use Rattle.page_follower.specs.Moments.{HasFed, HoldsFirst, HoldsOnly, IsFedOn, Offer, in_flight, no_record}
use Rattle.page_follower.specs.Reading.{IsShort}

-- each of these records is short enough for its length to be written
abbrev pub CanBeFed : List (List ℕ) → Type 0
CanBeFed bodies = Each (λ body. length body < 2 ^ 32) bodies

-- A feed holds the records that were put into it, and no others.
abbrev pub FeedsHoldTheirRecords : Type 0
FeedsHoldTheirRecords =
    (bodies : List (List ℕ)) → CanBeFed bodies → length (feed_with bodies) ≤ most_of_feed
    → feed_in (feed_with bodies) ≡ record { bodies = bodies; ends = complete }

-- A feed that ends inside a record holds those before it, and is cut where that one begins.
abbrev pub CutFeedsHoldTheFirst : Type 0
CutFeedsHoldTheFirst =
    (bodies : List (List ℕ)) (rest : List ℕ) → CanBeFed bodies → 0 < length rest → IsShort rest → length (feed_with bodies ++ rest) ≤ most_of_feed
    → feed_in (feed_with bodies ++ rest) ≡ record { bodies = bodies; ends = cut (length (feed_with bodies)) }

-- From the moment on at which records were acknowledged, a crash leaves these after those that the disk held before, and after them the first of
-- those that came later; so one now does. So it is for each number of them: there was a disk and an output when they and no others had been
-- acknowledged. A crash at any moment before that left those that were held before, and after them the first of all. A record that was refused is
-- none of them.
abbrev pub AcknowledgedRecordsAreHeld : {D : Type 0} → (D → View) → Type 0
AcknowledgedRecordsAreHeld {D} view =
    (held first rest : List (List ℕ)) (offer : Offer) (old new : D) (sink told : SinkView) (acks : ℕ)
    → HasFed view held old new sink acks (first ++ rest) told offer
    → LeavesOnly (view old) (view new) (HoldsFirst held ((first ++ rest) ++ in_flight offer))
    × ((mid : D) × (so_far : SinkView) × HasFed view held old mid sink acks first so_far no_record × HoldsOnly (view mid) (held ++ first)
    × IsFedOn view (held ++ first) mid new so_far (acks + length first) rest told offer
    × LeavesOnly (view mid) (view new) (HoldsFirst (held ++ first) (rest ++ in_flight offer))
    × AreAmong (view new).images (HoldsFirst (held ++ first) (rest ++ in_flight offer)))

-- Where a journal has room for all of some records, bytes that hold the first of them are read as these.
abbrev pub FirstRecordsAreFound : Type 0
FirstRecordsAreFound =
    (bodies others : List (List ℕ)) (bytes : List ℕ) → HoldsFirst bodies others bytes → length (at_rest (bodies ++ others)) ≤ 2 ^ 30
    → (first rest : List (List ℕ)) × (others ≡ first ++ rest) × (records bytes ≡ Intact (bodies ++ first))
