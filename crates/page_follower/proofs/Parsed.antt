-- What a feed holds whose first records are known, and what else stands after them.
use Rattle.std.proofs.Common.{◌≡◌, ◌≤◌, ◌<◌, ◌+◌, ◌++◌, ◌∷◌, ◌∙◌, ◌^◌, ℕ, zero, suc, List, [], Option, Some, None, length, arith, sym, ap, refl, subst, append_assoc, append-nil, length-append}
use Rattle.std.specs.Io.KnownBytes.{Consumes, IsAtEnd}
use Rattle.shelf.specs.WireBytes.Spelling.{u32_bytes}
use Rattle.shelf.specs.PageJournal.Records.{framed}
use Rattle.page_follower.specs.Comparing.{FindsEnd, Progress}
use Rattle.page_follower.specs.Feed.{Feed, cut, complete, ends_so, with_record, records_at, fed, feed_head, feed_in, most_of_feed}
use Rattle.page_follower.specs.Held.{Begins, HasAcked}
use Rattle.page_follower.specs.Laws.{CanBeFed}
use Rattle.page_follower.specs.Reading.{Came, IsCut, IsPast}
use Rattle.shelf.specs.WebOutside.View.{SourceView, SinkView}
use Rattle.page_follower.proofs.Feeds.{behind_head, cut_record, length_framed, nothing_left, one_record}

-- ---- bytes

-- what is left of known bytes
pub left_behind : (old new : Option (List ℕ)) (xs bs : List ℕ) → old ≡ Some xs → Consumes old new bs
    → (ys : List ℕ) × (new ≡ Some ys) × (xs ≡ bs ++ ys)
left_behind None new xs bs is c = absurd (cc is)
left_behind (Some x) None xs bs is c = absurd c
left_behind (Some x) (Some y) xs bs is c = let same : x ≡ xs = cc in (y, refl, sym same ∙ c)

-- nothing is left at the end
pub at_end : (o : Option (List ℕ)) (ys : List ℕ) → o ≡ Some ys → IsAtEnd o → ys ≡ []
at_end None ys is e = absurd (cc is)
at_end (Some y) ys is e = let same : y ≡ ys = cc in sym same ∙ e

-- records one after the other
pub fed_append : (xs ys : List (List ℕ)) → fed (xs ++ ys) ≡ fed xs ++ fed ys
fed_append [] ys = refl
fed_append (x ∷ xs) ys = ap (λ l. framed x ++ l) (fed_append xs ys) ∙ sym (append_assoc (framed x) (fed xs) (fed ys))

-- each of records is short that are short together
each_short : (bodies : List (List ℕ)) → length (fed bodies) < 2 ^ 32 → CanBeFed bodies
each_short [] fits = tt
each_short (b ∷ bodies) fits =
    let l = length-append (framed b) (fed bodies) in let m = length_framed b in (omega arith, each_short bodies (omega arith))

-- the records in front of what else a feed holds
abbrev pub in_front : List (List ℕ) → Feed → Feed
in_front [] feed = feed
in_front (body ∷ bodies) feed = with_record body (in_front bodies feed)

-- records in front of others are those of both
pub in_front_append : (xs ys : List (List ℕ)) (feed : Feed) → in_front (xs ++ ys) feed ≡ in_front xs (in_front ys feed)
in_front_append [] ys feed = refl
in_front_append (x ∷ xs) ys feed = ap (with_record x) (in_front_append xs ys feed)

-- records are read, and then what else stands there
front_records : (bodies : List (List ℕ)) (fuel place : ℕ) (tail : List ℕ) → CanBeFed bodies → length (fed bodies ++ tail) < fuel
    → (left : ℕ) × (length tail < left) × (records_at fuel place (fed bodies ++ tail) ≡ in_front bodies (records_at left (place + length (fed bodies)) tail))
front_records bodies zero place tail fits enough = absurd (omega arith)
front_records [] (suc fuel) place tail fits enough =
    (suc fuel, enough, ap (λ p. records_at (suc fuel) p tail) (let e : place ≡ place + 0 = omega arith in e))
front_records (body ∷ bodies) (suc fuel) place tail fits enough =
    let long = length-append (framed body) (fed bodies) in
    let size = length_framed body in
    let split : (framed body ++ fed bodies) ++ tail ≡ u32_bytes (length body) ++ (body ++ (fed bodies ++ tail)) =
    append_assoc (framed body) (fed bodies) tail ∙ append_assoc (u32_bytes (length body)) body (fed bodies ++ tail) in
    let more = length-append (framed body ++ fed bodies) tail in
    let less = length-append (fed bodies) tail in
    let later = front_records bodies fuel (place + 4 + length body) tail fits.1 (omega arith) in (
      later.0,
      later.1,
      ap (λ (l : List ℕ). records_at (suc fuel) place l) split
          ∙ one_record fuel place body (fed bodies ++ tail) fits.0
          ∙ ap (with_record body) later.2
          ∙ ap (λ p. with_record body (in_front bodies (records_at later.0 p tail)))
          (let e : place + 4 + length body + length (fed bodies) ≡ place + length (framed body ++ fed bodies) = omega arith in e),
    )

-- ---- where a follower stands in known bytes

-- so many records of a feed came, and these bytes are left
pub record StandsAt (bytes : List ℕ) (p : Progress) (bodies : List (List ℕ)) : Type 0 where
  pub rest : List ℕ
  pub left : p.source.left ≡ Some rest
  pub is : bytes ≡ feed_head ++ (fed bodies ++ rest)
  pub place : p.place ≡ 8 + length (fed bodies)

-- how many bytes came
stood : (bytes : List ℕ) (p : Progress) (bodies : List (List ℕ)) (s : StandsAt bytes p bodies) → length bytes ≡ p.place + length s.rest
stood bytes p bodies s =
    let a = ap length s.is in let b = length-append feed_head (fed bodies ++ s.rest) in let c = length-append (fed bodies) s.rest in
    let d : length feed_head ≡ 8 = refl in let e = s.place in omega arith

-- the head came
pub begun_at : (source : SourceView) (sink : SinkView) (begun : Progress) (bytes : List ℕ) → source.left ≡ Some bytes → Begins source sink begun None
    → StandsAt bytes begun []
begun_at source sink begun bytes known begins =
    let l = left_behind source.left begun.source.left bytes feed_head known begins.0.consumed in record {
      rest = l.0;
      left = l.1;
      is = l.2;
      place = let p = begins.0.place in let d : length feed_head ≡ 8 = refl in let e : length (fed []) ≡ 0 = refl in omega arith;
    }

-- records came that were acknowledged
pub acked_at : (bytes : List ℕ) (old new : Progress) (bodies more : List (List ℕ)) → StandsAt bytes old bodies → HasAcked old new more
    → StandsAt bytes new (bodies ++ more)
acked_at bytes old new bodies more s acked =
    let l = left_behind old.source.left new.source.left s.rest (fed more) s.left acked.got.consumed in record {
      rest = l.0;
      left = l.1;
      is = s.is ∙ ap (λ r. feed_head ++ (fed bodies ++ r)) l.2 ∙ ap (λ r. feed_head ++ r) (sym (append_assoc (fed bodies) (fed more) l.0))
          ∙ ap (λ r. feed_head ++ (r ++ l.0)) (sym (fed_append bodies more));
      place = let p = acked.got.place in let q = s.place in let a = ap length (fed_append bodies more) in let b = length-append (fed bodies) (fed more) in
          omega arith;
    }

-- the feed holds these records, and then what is left
parsed : (bytes : List ℕ) (p : Progress) (bodies : List (List ℕ)) → length bytes ≤ most_of_feed → (s : StandsAt bytes p bodies)
    → (left : ℕ) × (length s.rest < left) × (feed_in bytes ≡ in_front bodies (records_at left p.place s.rest))
parsed bytes p bodies fits s =
    let a = length-append feed_head (fed bodies ++ s.rest) in let b = length-append (fed bodies) s.rest in let c = ap length s.is in
    let all = front_records bodies (suc (length (fed bodies ++ s.rest))) 8 s.rest (each_short bodies (omega arith)) (omega arith) in (
      all.0,
      all.1,
      ap feed_in s.is
          ∙ behind_head (fed bodies ++ s.rest) _ (subst (λ l. length l ≤ most_of_feed) s.is fits) all.2
          ∙ ap (λ q. in_front bodies (records_at all.0 q s.rest)) (sym s.place),
    )

-- ---- and how the feed goes on

-- the feed ended there
pub finds_end : (bytes : List ℕ) (mid new : Progress) (bodies : List (List ℕ)) → length bytes ≤ most_of_feed → StandsAt bytes mid bodies
    → FindsEnd mid new → feed_in bytes ≡ in_front bodies (ends_so complete)
finds_end bytes mid new bodies fits s finds =
    let l = left_behind mid.source.left new.source.left s.rest [] s.left finds.ended.got.consumed in
    let none : s.rest ≡ [] = l.2 ∙ at_end new.source.left l.0 l.1 finds.ended.end in
    let all = parsed bytes mid bodies fits s in
    all.2 ∙ ap (λ r. in_front bodies (records_at all.0 mid.place r)) none
    ∙ ap (in_front bodies) (nothing_left all.0 mid.place (let h = all.1 in omega arith))

-- the feed ended inside a record there
pub finds_cut : (bytes : List ℕ) (mid new : Progress) (bodies : List (List ℕ)) → length bytes ≤ most_of_feed → StandsAt bytes mid bodies
    → IsCut mid.source.left new.source.left → feed_in bytes ≡ in_front bodies (ends_so (cut mid.place))
finds_cut bytes mid new bodies fits s finds =
    let l = left_behind mid.source.left new.source.left s.rest finds.rest s.left finds.consumed in
    let these : s.rest ≡ finds.rest = l.2 ∙ ap (λ r. finds.rest ++ r) (at_end new.source.left l.0 l.1 finds.end) ∙ append-nil finds.rest in
    let all = parsed bytes mid bodies fits s in
    all.2 ∙ ap (λ r. in_front bodies (records_at all.0 mid.place r)) these
    ∙ ap (in_front bodies) (cut_record all.0 mid.place finds.rest (subst (λ r. length r < all.0) these all.1) finds.some finds.short)

-- no more bytes came than a feed may have
pub finds_past : (bytes : List ℕ) (mid new : Progress) (bodies : List (List ℕ)) → length bytes ≤ most_of_feed → StandsAt bytes mid bodies
    → IsPast mid.source.left new.source.left mid.place → ⊥
finds_past bytes mid new bodies fits s past =
    let l = left_behind mid.source.left new.source.left s.rest past.bytes s.left past.consumed in
    let a = stood bytes mid bodies s in let b = ap length l.2 in let c = length-append past.bytes l.0 in let d = past.past in omega arith

-- a record came from there
pub finds_body : (bytes : List ℕ) (mid new : Progress) (bodies : List (List ℕ)) (body : List ℕ) → length bytes ≤ most_of_feed → StandsAt bytes mid bodies
    → Came mid.source new.source mid.place new.place body → (feed : Feed) × (feed_in bytes ≡ in_front bodies (with_record body feed))
finds_body bytes mid new bodies body fits s came =
    let l = left_behind mid.source.left new.source.left s.rest (framed body) s.left came.consumed in
    let all = parsed bytes mid bodies fits s in
    let a = stood bytes mid bodies s in let b = ap length l.2 in let c = length-append (framed body) l.0 in let d = length_framed body in
    let split : s.rest ≡ u32_bytes (length body) ++ (body ++ l.0) = l.2 ∙ append_assoc (u32_bytes (length body)) body l.0 in
    let here = by_fuel all.0 mid.place l.0 (omega arith) (let h = all.1 in omega arith) in (
      here.0,
      all.2 ∙ ap (λ r. in_front bodies (records_at all.0 mid.place r)) split ∙ ap (in_front bodies) here.1,
    )
  where
    by_fuel : (fuel place : ℕ) (tail : List ℕ) → length body < 2 ^ 32 → 0 < fuel
        → (feed : Feed) × (records_at fuel place (u32_bytes (length body) ++ (body ++ tail)) ≡ with_record body feed)
    by_fuel zero place tail short some = absurd (omega arith)
    by_fuel (suc fuel) place tail short some = (records_at fuel (place + 4 + length body) tail, one_record fuel place body tail short)
