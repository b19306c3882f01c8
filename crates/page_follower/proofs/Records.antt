-- Records that come: a length, and then a body.
use Rattle.std.proofs.Common.{◌≡◌, ◌≤◌, ◌<◌, ◌+◌, ◌-◌, ◌++◌, ◌∙◌, ℕ, List, Option, Some, None, Ok, length, take, arith, sym, ap, subst, length-append}
use Rattle.std.proofs.Math.Seq.{take-append-add}
use Rattle.std.proofs.lemmas.List.{length-take}
use Rattle.std.proofs.lemmas.Nat.{from_le_bytes-to_le_bytes_4}
use Rattle.std.specs.Global.{Vec}
use Rattle.shelf.specs.WebOutside.View.{SourceView}
use Rattle.shelf.proofs.WebOutside.Consumed.{consumes_then}
use Rattle.shelf.specs.WireBytes.Spelling.{u32_bytes}
use Rattle.page_follower.specs.Feed.{most_of_feed, size_in}
use Rattle.page_follower.specs.Reading.{Got, Came, GotSize, IsShort, NoBody, NoRecord, Sizes, TakesNext, Fails}
use Rattle.page_follower.specs.declared.fault.FeedFault.{FeedFault}
use Rattle.page_follower.specs.declared.fault.FeedFault.TheVariants as fault
use Rattle.page_follower.proofs.Readings.{past_then, unread_then}

-- bytes of a body, and then none for this reason
pub no_body : (old mid new : SourceView) (before between size start most : ℕ) (first : List ℕ) (f : FeedFault) → Got old mid before between first
    → length first + most ≤ size → Fails mid new between most f → NoBody old new before size start f
no_body old mid new before between size start most first fault.Head p fits q = q
no_body old mid new before between size start most first (fault.Cut place) p fits q = absurd q
no_body old mid new before between size start most first fault.Long p fits q = past_then old mid new before between 0 size most first p fits q
no_body old mid new before between size start most first fault.Failed p fits q = unread_then old mid new before between first p q
no_body old mid new before between size start most first fault.Memory p fits q = absurd q

-- the bytes of a length tell it, whatever stands after them
size_told : (size : ℕ) (rest : List ℕ) → size < 4294967296 → size_in (u32_bytes size ++ rest) ≡ size
size_told size rest fits = from_le_bytes-to_le_bytes_4 size fits

-- a length, and then fewer bytes than it tells
short_of : (size : ℕ) (rest : List ℕ) → size < 4294967296 → length rest < size → IsShort (u32_bytes size ++ rest)
short_of size rest fits short =
    let l = length-append (u32_bytes size) rest in let told = size_told size rest fits in omega arith

-- a length, and then bytes of which so many are fewer than it tells
past_of : (size room : ℕ) (rest : List ℕ) → size < 4294967296 → 4 ≤ room → room - 4 < size → IsShort (take room (u32_bytes size ++ rest))
past_of size room rest fits enough short =
    let few : length (take (room - 4) rest) < size = let l = length-take (room - 4) rest in omega arith in
    let split : take room (u32_bytes size ++ rest) ≡ u32_bytes size ++ take (room - 4) rest =
    ap (λ n. take n (u32_bytes size ++ rest)) (let e : room ≡ 4 + (room - 4) = omega arith in e) ∙ take-append-add (u32_bytes size) rest (room - 4) in
    subst IsShort (sym split) (short_of size (take (room - 4) rest) fits few)

-- a length, and then no body for this reason
pub no_record : (old mid new : SourceView) (before between size : ℕ) (f : FeedFault) → GotSize old mid before between size → between ≤ most_of_feed
    → NoBody mid new between size before f → NoRecord old new before f
no_record old mid new before between size fault.Head p within q = q
no_record old mid new before between size (fault.Cut place) p within q = (
  q.0,
  record {
    rest = u32_bytes size ++ q.1.rest;
    consumed = consumes_then old.left mid.left new.left (u32_bytes size) q.1.rest p.got.consumed q.1.consumed;
    some = let l = length-append (u32_bytes size) q.1.rest in omega arith;
    short = short_of size q.1.rest p.fits q.1.short;
    end = q.1.end;
  },
)
no_record old mid new before between size fault.Long p within q = record {
  bytes = u32_bytes size ++ q.bytes;
  consumed = consumes_then old.left mid.left new.left (u32_bytes size) q.bytes p.got.consumed q.consumed;
  past = let l = length-append (u32_bytes size) q.bytes in let a = p.got.place in let b = q.past in omega arith;
  short = let a = p.got.place in let b = q.past in let w = q.within in past_of size (most_of_feed - before) q.bytes p.fits (omega arith) (omega arith);
}
no_record old mid new before between size fault.Failed p within q = unread_then old mid new before between (u32_bytes size) p.got q
no_record old mid new before between size fault.Memory p within q =
    (u32_bytes size ++ q.0, consumes_then old.left mid.left new.left (u32_bytes size) q.0 p.got.consumed q.1)

-- a length was read
pub sized : (old mid : SourceView) (before between size : ℕ) (o : Option ℕ) → Sizes old mid before between (Ok o) → o ≡ Some size
    → GotSize old mid before between size
sized old mid before between size None p is = absurd (cc)
sized old mid before between size (Some n) p is = let same : n ≡ size = cc in subst (GotSize old mid before between) same p

-- a record was taken
pub taken : (old new : SourceView) (before after : ℕ) (body : Vec ℕ) (o : Option (Vec ℕ)) → TakesNext old new before after (Ok o) → o ≡ Some body
    → Came old new before after body.items
taken old new before after body None p is = absurd (cc)
taken old new before after body (Some b) p is = let same : b ≡ body = cc in subst (λ (x : Vec ℕ). Came old new before after x.items) same p
