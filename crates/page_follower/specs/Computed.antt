-- What a follower did with a feed, by what the definition of following computes from the feed's bytes.
use Rattle.std.specs.Prelude.{⊤, ◌≡◌, ◌≤◌, ◌++◌, ℕ, Bool, true, false, List, [], ◌∷◌, length, Option, Some, None}
use Rattle.std.specs.Io.KnownBytes.{Appends}
use Rattle.shelf.specs.WebOutside.View.{SourceView, SinkView}
use Rattle.shelf.specs.JournalRecords.Roles.{feed_of}
use Rattle.page_follower.specs.Acks.{acks_behind}
use Rattle.page_follower.specs.Feed.{feed_in, most_of_feed}
use Rattle.page_follower.specs.Following.{Followed, Outcome, held_all, no_head, differs_at, refused_at, cut_at, over, followed}
use Rattle.page_follower.specs.Held.{HasFollowed}
use Rattle.page_follower.specs.Moments.{Moments, Offer, refused_record}
use Rattle.page_follower.specs.declared.fault.FeedFault.TheVariants as fault
use Rattle.page_follower.specs.declared.fault.FollowEnd.{FollowEnd}
use Rattle.page_follower.specs.declared.fault.FollowEnd.TheVariants as end

-- how following ends by the feed and the records alone, where it ended so; none where something failed, or there was no room
abbrev pub outcome_for : FollowEnd → Option Outcome
outcome_for end.Held = Some held_all
outcome_for end.Promoted = None
outcome_for (end.Feed fault.Head) = Some no_head
outcome_for (end.Feed (fault.Cut place)) = Some (cut_at place)
outcome_for (end.Feed fault.Long) = Some over
outcome_for (end.Feed fault.Failed) = None
outcome_for (end.Feed fault.Memory) = None
outcome_for (end.Other place) = Some (differs_at place)
outcome_for (end.Record place) = Some (refused_at place)
outcome_for (end.Full len) = None
outcome_for end.DiskFault = None
outcome_for end.Unwritten = None
outcome_for end.Memory = None

-- a follower acknowledges so many records and adopts these, and following ends so
abbrev pub does : (acks : ℕ) → (adopted : List (List ℕ)) → Outcome → Followed
does acks adopted o = record { acks = acks; adopted = adopted; outcome = o }

-- each of these records can stand after those before it
abbrev pub AdmitsEach : (admits : List (List ℕ) → List ℕ → Bool) → (so_far more : List (List ℕ)) → Type 0
AdmitsEach admits so_far [] = ⊤
AdmitsEach admits so_far (body ∷ more) = (admits so_far body ≡ true) × AdmitsEach admits (so_far ++ body ∷ []) more

-- the record that was offered cannot stand after these, where following ended for that
abbrev pub RefusesNext : (admits : List (List ℕ) → List ℕ → Bool) → (so_far : List (List ℕ)) → Offer → Outcome → Type 0
RefusesNext admits so_far offer o =
    (place : ℕ) (body : List ℕ) → o ≡ refused_at place → offer ≡ refused_record body → admits so_far body ≡ false

-- A follower adopted these records after those that it held, and wrote so many acknowledgments. It is what following computes from the feed's
-- bytes, whatever tells which records can stand where, if that says yes to those that were adopted and no to one that was refused.
pub record IsComputed (bytes : List ℕ) (held holds : List (List ℕ)) (written now : Option (List ℕ)) (o : Outcome) : Type 0 where
  pub adopted : List (List ℕ)
  pub acks : ℕ
  pub offer : Offer
  pub grows : holds ≡ held ++ adopted
  pub acknowledges : Appends written now (acks_behind 0 acks)
  pub is : (admits : List (List ℕ) → List ℕ → Bool) → AdmitsEach admits (feed_of held) adopted → RefusesNext admits (feed_of held ++ adopted) offer o
      → followed admits (feed_of held) (feed_in bytes) ≡ does acks adopted o

-- nothing is told of the disk
abbrev pub nothing_told : Moments
nothing_told = λ sink acks more told offer. ⊤

-- Where the bytes of a source are known, and not too many for a feed, what a follower did with them is what following computes from them, unless
-- something failed or there was no room.
abbrev pub FollowingIsComputed : Type 0
FollowingIsComputed =
    (source left : SourceView) (sink told : SinkView) (held holds : List (List ℕ)) (bytes : List ℕ) (e : FollowEnd) (o : Outcome)
    → source.left ≡ Some bytes → length bytes ≤ most_of_feed → HasFollowed nothing_told source left sink told held holds e
    → outcome_for e ≡ Some o → IsComputed bytes held holds sink.written told.written o
