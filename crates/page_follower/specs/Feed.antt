-- What a feed is: the records of a journal, as a leader sends them to a follower.
use Rattle.std.specs.Prelude.{ℕ, zero, suc, ◌+◌, ◌++◌, List, [], ◌∷◌, length, take, drop, Option, Some, None, if◌then◌else◌, nat_le}
use Rattle.std.specs.Int.{w32, from_le_bytes}
use Rattle.shelf.specs.PageJournal.Records.{framed, behind}

-- the first bytes of a feed: its magic word and the number of its format
abbrev pub feed_head : List ℕ
feed_head = 75 ∷ 83 ∷ 70 ∷ 69 ∷ 69 ∷ 68 ∷ 0 ∷ 6 ∷ []

-- how many bytes a feed may have
abbrev pub most_of_feed : ℕ
most_of_feed = 1073741824

-- records one after the other, each of them its body's length and its body
abbrev pub fed : List (List ℕ) → List ℕ
fed [] = []
fed (body ∷ bodies) = framed body ++ fed bodies

-- the feed of these records
abbrev pub feed_with : List (List ℕ) → List ℕ
feed_with bodies = feed_head ++ fed bodies

-- How a feed ends: after a record, or after its head; with other first bytes than a feed has; inside its head or inside the record at this place;
-- or with more bytes than a feed may have.
pub data FeedEnd : Type 0 where
  complete : FeedEnd
  headless : FeedEnd
  cut : (place : ℕ) → FeedEnd
  too_long : FeedEnd

-- what the bytes of a feed hold: the bodies of the records that are whole, and how it ends after them
pub record Feed : Type 0 where
  pub bodies : List (List ℕ)
  pub ends : FeedEnd

-- no record, and this end
abbrev pub ends_so : FeedEnd → Feed
ends_so end = record { bodies = []; ends = end }

-- a record, and then what a feed holds after it
abbrev pub with_record : List ℕ → Feed → Feed
with_record body feed = record { bodies = body ∷ feed.bodies; ends = feed.ends }

-- the length that the next four bytes tell
abbrev pub size_in : List ℕ → ℕ
size_in bytes = from_le_bytes w32 (take 4 bytes)

-- The records from the one at this place on. Each has four bytes or more, so `fuel` is enough where it is above the length.
abbrev pub records_at : (fuel place : ℕ) → List ℕ → Feed
records_at zero place bytes = ends_so (cut place)
records_at (suc fuel) place [] = ends_so complete
records_at (suc fuel) place (b ∷ bs) =
    if nat_le (4 + size_in (b ∷ bs)) (length (b ∷ bs))
    then with_record (take (size_in (b ∷ bs)) (drop 4 (b ∷ bs)))
    (records_at fuel (place + 4 + size_in (b ∷ bs)) (drop (size_in (b ∷ bs)) (drop 4 (b ∷ bs))))
    else ends_so (cut place)

-- what stands after the head, if there is one; else what is missing of it, if the bytes are its front
abbrev pub by_head : (rest missing : Option (List ℕ)) → Feed
by_head (Some rest) missing = records_at (suc (length rest)) 8 rest
by_head None (Some missing) = ends_so (cut 0)
by_head None None = ends_so headless

-- what bytes hold that are not too many for a feed
abbrev pub feed_within : List ℕ → Feed
feed_within bytes = by_head (behind feed_head bytes) (behind bytes feed_head)

-- how a feed ends whose first bytes, as many as a feed may have, end so
abbrev pub goes_past : FeedEnd → FeedEnd
goes_past complete = too_long
goes_past headless = headless
goes_past (cut place) = too_long
goes_past too_long = too_long

-- what a feed holds whose first bytes, as many as a feed may have, hold this
abbrev pub overlong : Feed → Feed
overlong feed = record { bodies = feed.bodies; ends = goes_past feed.ends }

-- what the bytes of a feed hold
abbrev pub feed_in : List ℕ → Feed
feed_in bytes = if nat_le (length bytes) most_of_feed then feed_within bytes else overlong (feed_within (take most_of_feed bytes))
