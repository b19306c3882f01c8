-- Bytes that come one after the other.
use Rattle.std.proofs.Common.{◌≡◌, ◌≤◌, ◌+◌, ◌++◌, ℕ, List, [], length, arith, subst, length-append}
use Rattle.std.proofs.KnownBytes.{Consumes-nil}
use Rattle.shelf.specs.WebOutside.View.{SourceView}
use Rattle.shelf.proofs.WebOutside.Consumed.{consumes_then}
use Rattle.page_follower.specs.Reading.{Got, GoesPast, IsUnread, Fails}
use Rattle.page_follower.specs.declared.fault.FeedFault.{FeedFault}
use Rattle.page_follower.specs.declared.fault.FeedFault.TheVariants as fault

-- nothing came yet
pub got_nothing : (s : SourceView) (place : ℕ) → Got s s place place []
got_nothing s place = record { consumed = Consumes-nil s.left; place = omega arith; later = omega arith }

-- some bytes, and then others
pub got_then : (old mid new : SourceView) (before between after : ℕ) (first second : List ℕ) → Got old mid before between first
    → Got mid new between after second → Got old new before after (first ++ second)
got_then old mid new before between after first second p q = record {
  consumed = consumes_then old.left mid.left new.left first second p.consumed q.consumed;
  place = let l = length-append first second in let a = p.place in let b = q.place in omega arith;
  later = let a = p.later in let b = q.later in omega arith;
}

-- the same bytes in other words
pub got_as : (old new : SourceView) (before after : ℕ) (first second : List ℕ) → first ≡ second → Got old new before after first
    → Got old new before after second
got_as old new before after first second is p = subst (Got old new before after) is p

-- bytes, and then too many
pub past_then : (old mid new : SourceView) (before between after size most : ℕ) (first : List ℕ) → Got old mid before between first
    → length first + most ≤ size → GoesPast mid.left new.left between most → GoesPast old.left new.left before size
past_then old mid new before between after size most first p fits q = record {
  bytes = first ++ q.bytes;
  consumed = consumes_then old.left mid.left new.left first q.bytes p.consumed q.consumed;
  past = let l = length-append first q.bytes in let a = p.place in let b = q.past in omega arith;
  within = let l = length-append first q.bytes in let b = q.within in omega arith;
}

-- bytes, and then a read that failed
pub unread_then : (old mid new : SourceView) (before between : ℕ) (first : List ℕ) → Got old mid before between first → IsUnread mid new
    → IsUnread old new
unread_then old mid new before between first p q = record {
  consumed = (first ++ q.consumed.0, consumes_then old.left mid.left new.left first q.consumed.0 p.consumed q.consumed.1);
  rose = let a = p.later in let b = q.rose in omega arith;
}

-- bytes, and then none for this reason
pub fails_then : (old mid new : SourceView) (before between size most : ℕ) (first : List ℕ) (f : FeedFault) → Got old mid before between first
    → length first + most ≤ size → Fails mid new between most f → Fails old new before size f
fails_then old mid new before between size most first fault.Head p fits q = q
fails_then old mid new before between size most first (fault.Cut place) p fits q = q
fails_then old mid new before between size most first fault.Long p fits q = past_then old mid new before between 0 size most first p fits q
fails_then old mid new before between size most first fault.Failed p fits q = unread_then old mid new before between first p q
fails_then old mid new before between size most first fault.Memory p fits q = q
