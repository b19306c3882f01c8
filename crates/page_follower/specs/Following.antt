-- What a follower makes of a feed.
use Rattle.std.specs.Prelude.{ℕ, ◌+◌, ◌++◌, Bool, true, false, List, [], ◌∷◌, length, Option, Some, None, if◌then◌else◌}
use Rattle.shelf.specs.PageJournal.Records.{behind}
use Rattle.page_follower.specs.Feed.{FeedEnd, complete, headless, cut, too_long, Feed}

-- How following ends, by the feed and the records that are held: each record of the feed is held; the feed has another head; the record at this
-- place differs from the one that is held; that at this place cannot stand there; the feed ends inside that at this place; or it is too long.
pub data Outcome : Type 0 where
  held_all : Outcome
  no_head : Outcome
  differs_at : (place : ℕ) → Outcome
  refused_at : (place : ℕ) → Outcome
  cut_at : (place : ℕ) → Outcome
  over : Outcome

-- what a follower does: how many records it acknowledges, those that it adopts, and how it ends
pub record Followed : Type 0 where
  pub acks : ℕ
  pub adopted : List (List ℕ)
  pub outcome : Outcome

-- nothing is done, and following ends so
abbrev pub stops : Outcome → Followed
stops o = record { acks = 0; adopted = []; outcome = o }

-- a record that is held already is acknowledged, and then this is done
abbrev pub acked : Followed → Followed
acked f = record { acks = 1 + f.acks; adopted = f.adopted; outcome = f.outcome }

-- a record is adopted and acknowledged, and then this is done
abbrev pub adopts : List ℕ → Followed → Followed
adopts body f = record { acks = 1 + f.acks; adopted = body ∷ f.adopted; outcome = f.outcome }

-- how following ends where the feed ends so
abbrev pub outcome_of : FeedEnd → Outcome
outcome_of complete = held_all
outcome_of headless = no_head
outcome_of (cut place) = cut_at place
outcome_of too_long = over

-- whether nothing is left
abbrev pub is_spent : Option (List ℕ) → Bool
is_spent None = false
is_spent (Some []) = true
is_spent (Some (b ∷ bs)) = false

-- whether two bodies are the same
abbrev pub is_same : List ℕ → List ℕ → Bool
is_same held body = is_spent (behind held body)

-- Records of a feed, the first of them at this place, come to a follower that holds these records from there on. `admits` tells whether a body can
-- stand after others.
abbrev pub follows : (admits : List (List ℕ) → List ℕ → Bool) → (so_far held : List (List ℕ)) → (place : ℕ) → (bodies : List (List ℕ)) → FeedEnd
    → Followed
follows admits so_far held place [] end = stops (outcome_of end)
follows admits so_far (h ∷ held) place (body ∷ bodies) end =
    if is_same h body then acked (follows admits (so_far ++ body ∷ []) held (place + 4 + length body) bodies end) else stops (differs_at place)
follows admits so_far [] place (body ∷ bodies) end =
    if admits so_far body then adopts body (follows admits (so_far ++ body ∷ []) [] (place + 4 + length body) bodies end) else stops (refused_at place)

-- what a follower that holds these records does with a feed
abbrev pub followed : (admits : List (List ℕ) → List ℕ → Bool) → (held : List (List ℕ)) → Feed → Followed
followed admits held feed = follows admits [] held 8 feed.bodies feed.ends
