-- A buffer that is filled piece by piece.
use Rattle.std.proofs.Common.{◌≡◌, ◌≤◌, ◌+◌, ◌-◌, ◌++◌, ◌∙◌, ℕ, List, length, take, drop, arith, sym, ap, length-drop, length-take-le}
use Rattle.std.proofs.Math.Seq.{take-append-add}
use Rattle.std.proofs.lemmas.List.{take-append-le}
use borrow.Rule.Slice.PartMut.{put_mid, post_of, mid_of, same_len_mid}
use Rattle.shelf.specs.WebOutside.View.{SourceView}
use Rattle.page_follower.specs.Reading.{Got, Fails, Gives}
use Rattle.page_follower.specs.declared.fault.FeedFault.{FeedFault}
use Rattle.page_follower.proofs.Readings.{got_then, got_as, fails_then}

-- the front of a list, and then a front of what was put after it
take_more : (xs ys : List ℕ) (a k n : ℕ) → a ≤ length xs → n ≤ length ys → take (a + n) (put_mid a k xs ys) ≡ take a xs ++ take n ys
take_more xs ys a k n in_range few =
    let front : length (take a xs) ≡ a = length-take-le a xs in_range in
    ap (λ m. take (m + n) (put_mid a k xs ys)) (sym front) ∙ take-append-add (take a xs) (ys ++ post_of a k xs) n
    ∙ ap (λ l. take a xs ++ l) (take-append-le n ys (post_of a k xs) few)

-- a buffer whose front was filled, and then a piece after it
pub filled_more : (old mid new : SourceView) (before between after done count : ℕ) (buffer piece : List ℕ) → Got old mid before between (take done buffer)
    → done ≤ length buffer → length piece ≡ length (mid_of done (length buffer - done) buffer) → Gives mid new between after piece count
    → Gives old new before after (put_mid done (length buffer - done) buffer piece) (done + count)
filled_more old mid new before between after done count buffer piece got in_range long gives =
    let size = same_len_mid done (length buffer - done) buffer piece long in
    let rest = length-drop done buffer in
    let whole : length (mid_of done (length buffer - done) buffer) ≡ length buffer - done =
    length-take-le (length buffer - done) (drop done buffer) (omega arith) in
    let few : count ≤ length piece = gives.within in
    record {
      got = got_as old new before after _ _ (sym (take_more buffer piece done (length buffer - done) count in_range few))
          (got_then old mid new before between after (take done buffer) (take count piece) got gives.got);
      within = omega arith;
    }

-- a buffer whose front was filled, and then a read that failed
pub filled_no_more : (old mid new : SourceView) (before between after done : ℕ) (buffer piece : List ℕ) (f : FeedFault)
    → Got old mid before between (take done buffer) → done ≤ length buffer → length piece ≡ length (mid_of done (length buffer - done) buffer)
    → Fails mid new between (length piece) f → Fails old new before (length (put_mid done (length buffer - done) buffer piece)) f
filled_no_more old mid new before between after done buffer piece f got in_range long fails =
    let size = same_len_mid done (length buffer - done) buffer piece long in
    let rest = length-drop done buffer in
    let front = length-take-le done buffer in_range in
    let whole : length (mid_of done (length buffer - done) buffer) ≡ length buffer - done =
    length-take-le (length buffer - done) (drop done buffer) (omega arith) in
    fails_then old mid new before between (length (put_mid done (length buffer - done) buffer piece)) (length piece) (take done buffer) f got
    (omega arith) fails
