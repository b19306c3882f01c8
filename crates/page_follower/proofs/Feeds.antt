-- Which records a feed holds.
use Rattle.std.proofs.Common.{◌≡◌, ◌≤◌, ◌<◌, ◌+◌, ◌++◌, ◌∷◌, ◌∙◌, ◌^◌, ℕ, zero, suc, Bool, true, false, List, [], if◌then◌else◌, nat_le, length, take, drop, arith, sym, ap, refl, subst, append_assoc, append-nil, length-append}
use Rattle.std.proofs.lemmas.List.{take_at, drop_at}
use Rattle.std.proofs.lemmas.Bool.Decides.{nat_tests}
use Rattle.std.proofs.lemmas.Nat.{from_le_bytes-to_le_bytes_4}
use Rattle.std.specs.Int.{w32, from_le_bytes}
use Rattle.shelf.specs.WireBytes.Spelling.{u32_bytes}
use Rattle.shelf.specs.PageJournal.Records.{framed}
use Rattle.page_follower.specs.Feed.{Feed, FeedEnd, complete, cut, ends_so, with_record, size_in, records_at, fed, feed_head, feed_with, feed_within, feed_in, overlong, most_of_feed}
use Rattle.page_follower.specs.Laws.{CanBeFed, FeedsHoldTheirRecords, CutFeedsHoldTheFirst}
use Rattle.page_follower.specs.Reading.{IsShort}

-- a record's frame is four bytes longer than its body
pub length_framed : (body : List ℕ) → length (framed body) ≡ 4 + length body
length_framed body = omega (arith, length-append (u32_bytes (length body)) body)

-- one record is read, and then what stands after it
pub one_record : (fuel place : ℕ) (body tail : List ℕ) → length body < 2 ^ 32
    → records_at (suc fuel) place (u32_bytes (length body) ++ (body ++ tail)) ≡ with_record body (records_at fuel (place + 4 + length body) tail)
one_record fuel place body tail fits =
    let bytes = u32_bytes (length body) ++ (body ++ tail) in
    let F : ℕ → Feed = λ size.
    (if nat_le (4 + size) (length bytes)
    then with_record (take size (body ++ tail)) (records_at fuel (place + 4 + size) (drop size (body ++ tail)))
    else ends_so (cut place)) in
    let size : from_le_bytes w32 (u32_bytes (length body)) ≡ length body = from_le_bytes-to_le_bytes_4 (length body) fits in
    let long : length bytes ≡ 4 + (length body + length tail) =
    omega (arith, length-append (u32_bytes (length body)) (body ++ tail), length-append body tail) in
    let enough : nat_le (4 + length body) (length bytes) ≡ true = grind (arith, nat_tests, long) in
    ap F size
    ∙ ap (λ (t : Bool). if t then with_record (take (length body) (body ++ tail)) (records_at fuel (place + 4 + length body) (drop (length body) (body ++ tail))) else ends_so (cut place)) enough
    ∙ (λ i. with_record (take_at body tail (length body) refl i) (records_at fuel (place + 4 + length body) (drop_at body tail (length body) refl i)))

-- records are read, and then what stands after them
all_records : (bodies : List (List ℕ)) (fuel place : ℕ) (tail : List ℕ) (end : FeedEnd) → CanBeFed bodies → length (fed bodies ++ tail) < fuel
    → ((left : ℕ) → length tail < left → records_at left (place + length (fed bodies)) tail ≡ ends_so end)
    → records_at fuel place (fed bodies ++ tail) ≡ record { bodies = bodies; ends = end }
all_records bodies zero place tail end fits enough last = absurd (omega arith)
all_records [] (suc fuel) place tail end fits enough last =
    ap (λ p. records_at (suc fuel) p tail) (let e : place ≡ place + 0 = omega arith in e) ∙ last (suc fuel) enough
all_records (body ∷ bodies) (suc fuel) place tail end fits enough last =
    let long = length-append (framed body) (fed bodies) in
    let size = length_framed body in
    let split : (framed body ++ fed bodies) ++ tail ≡ u32_bytes (length body) ++ (body ++ (fed bodies ++ tail)) =
    append_assoc (framed body) (fed bodies) tail ∙ append_assoc (u32_bytes (length body)) body (fed bodies ++ tail) in
    let more = length-append (framed body ++ fed bodies) tail in
    let less = length-append (fed bodies) tail in
    ap (λ (l : List ℕ). records_at (suc fuel) place l) split
    ∙ one_record fuel place body (fed bodies ++ tail) fits.0
    ∙ ap (with_record body)
    (all_records bodies fuel (place + 4 + length body) tail end fits.1 (omega arith)
    (λ left h. ap (λ p. records_at left p tail) (let e : place + 4 + length body + length (fed bodies) ≡ place + length (framed body ++ fed bodies) = omega arith in e)
    ∙ last left h))

-- nothing is read where nothing is left
pub nothing_left : (left place : ℕ) → 0 < left → records_at left place [] ≡ ends_so complete
nothing_left zero place h = absurd (omega arith)
nothing_left (suc left) place h = refl

-- no record is read where one is cut
pub cut_record : (left place : ℕ) (rest : List ℕ) → length rest < left → 0 < length rest → IsShort rest → records_at left place rest ≡ ends_so (cut place)
cut_record zero place rest h some short = absurd (omega arith)
cut_record (suc left) place [] h some short = absurd (omega arith)
cut_record (suc left) place (b ∷ bs) h some short =
    let few : nat_le (4 + size_in (b ∷ bs)) (length (b ∷ bs)) ≡ false = grind (arith, nat_tests, short) in
    ap (λ (t : Bool). if t then with_record (take (size_in (b ∷ bs)) (drop 4 (b ∷ bs))) (records_at left (place + 4 + size_in (b ∷ bs)) (drop (size_in (b ∷ bs)) (drop 4 (b ∷ bs)))) else ends_so (cut place)) few

-- a feed that is not too long holds what stands after its head
pub behind_head : (rest : List ℕ) (feed : Feed) → length (feed_head ++ rest) ≤ most_of_feed → records_at (suc (length rest)) 8 rest ≡ feed
    → feed_in (feed_head ++ rest) ≡ feed
behind_head rest feed fits is =
    let short : nat_le (length (feed_head ++ rest)) most_of_feed ≡ true = grind (arith, nat_tests, fits) in
    ap (λ (t : Bool). if t then feed_within (feed_head ++ rest) else overlong (feed_within (take most_of_feed (feed_head ++ rest)))) short ∙ is

pub feeds_hold_their_records : FeedsHoldTheirRecords
feeds_hold_their_records bodies can fits =
    behind_head (fed bodies) _ fits
    (subst (λ l. records_at (suc (length l)) 8 l ≡ record { bodies = bodies; ends = complete }) (append-nil (fed bodies))
    (all_records bodies (suc (length (fed bodies ++ []))) 8 [] complete can (omega arith) (λ left h. nothing_left left _ h)))

pub cut_feeds_hold_the_first : CutFeedsHoldTheFirst
cut_feeds_hold_the_first bodies rest can some short fits =
    let size : 8 + length (fed bodies) ≡ length (feed_with bodies) = sym (length-append feed_head (fed bodies)) in
    ap feed_in (append_assoc feed_head (fed bodies) rest)
    ∙ behind_head (fed bodies ++ rest) _ (subst (λ l. length l ≤ most_of_feed) (append_assoc feed_head (fed bodies) rest) fits)
    (all_records bodies (suc (length (fed bodies ++ rest))) 8 rest (cut (length (feed_with bodies))) can (omega arith)
    (λ left h. cut_record left (8 + length (fed bodies)) rest h some short ∙ ap (λ p. ends_so (cut p)) size))
