-- Values of the definitions.
use Rattle.std.specs.Prelude.{◌≡◌, ℕ, Bool, true, false, List, [], ◌∷◌, take, replicate, refl}
use Rattle.page_follower.specs.Feed.{feed_head, feed_with, feed_in, ends_so, complete, headless, cut}
use Rattle.page_follower.specs.Following.{followed, held_all, differs_at, refused_at, cut_at}

-- some record of so many bytes
abbrev pub some_bytes : ℕ → List ℕ
some_bytes n = replicate n 7

-- the records of a journal
abbrev pub four_bodies : List (List ℕ)
four_bodies = some_bytes 3 ∷ some_bytes 1 ∷ [] ∷ some_bytes 5 ∷ []

-- any record can stand anywhere
abbrev pub admits_all : List (List ℕ) → List ℕ → Bool
admits_all so_far body = true

-- a record that is longer than two bytes stands nowhere but in front
abbrev pub admits_short : List (List ℕ) → List ℕ → Bool
admits_short [] body = true
admits_short (b ∷ bs) (x ∷ y ∷ z ∷ rest) = false
admits_short (b ∷ bs) body = true

-- a feed holds what was put into it
whole : feed_in (feed_with four_bodies) ≡ record { bodies = four_bodies; ends = complete }
whole = refl

-- a feed without a record is its head
alone : feed_in feed_head ≡ ends_so complete
alone = refl

-- inside its head a feed is cut
cut_head : feed_in (take 7 feed_head) ≡ ends_so (cut 0)
cut_head = refl

-- before its first byte it is cut too
nothing : feed_in [] ≡ ends_so (cut 0)
nothing = refl

-- another front is no feed's
other_head : feed_in (75 ∷ 83 ∷ 71 ∷ []) ≡ ends_so headless
other_head = refl

-- inside a record a feed is cut at the record's first byte
cut_record : feed_in (take 19 (feed_with four_bodies)) ≡ record { bodies = some_bytes 3 ∷ []; ends = cut 15 }
cut_record = refl

-- inside a record's length a feed is cut at the record's first byte
cut_length : feed_in (take 17 (feed_with four_bodies)) ≡ record { bodies = some_bytes 3 ∷ []; ends = cut 15 }
cut_length = refl

-- a follower that holds nothing adopts each record
adopts_all : followed admits_all [] (feed_in (feed_with four_bodies)) ≡ record { acks = 4; adopted = four_bodies; outcome = held_all }
adopts_all = refl

-- one that holds the first two acknowledges them and adopts the others
goes_on : followed admits_all (some_bytes 3 ∷ some_bytes 1 ∷ []) (feed_in (feed_with four_bodies))
    ≡ record { acks = 4; adopted = [] ∷ some_bytes 5 ∷ []; outcome = held_all }
goes_on = refl

-- one that holds more than the feed has goes on holding it
holds_more : followed admits_all (some_bytes 3 ∷ some_bytes 1 ∷ []) (feed_in (feed_with (some_bytes 3 ∷ [])))
    ≡ record { acks = 1; adopted = []; outcome = held_all }
holds_more = refl

-- a record that is held otherwise ends it, at the record's first byte in the feed
differs : followed admits_all (some_bytes 3 ∷ some_bytes 2 ∷ []) (feed_in (feed_with four_bodies)) ≡ record { acks = 1; adopted = []; outcome = differs_at 15 }
differs = refl

-- a record that cannot stand in its place ends it
refused : followed admits_short [] (feed_in (feed_with four_bodies))
    ≡ record { acks = 3; adopted = some_bytes 3 ∷ some_bytes 1 ∷ [] ∷ []; outcome = refused_at 24 }
refused = refl

-- a feed that is cut inside its second record, which begins after 300 bytes: the first is acknowledged
cut_second : followed admits_all [] (feed_in (take 354 (feed_with (some_bytes 288 ∷ some_bytes 101 ∷ []))))
    ≡ record { acks = 1; adopted = some_bytes 288 ∷ []; outcome = cut_at 300 }
cut_second = refl
