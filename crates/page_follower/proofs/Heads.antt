-- The first bytes of a feed.
use Rattle.std.proofs.Common.{◌≡◌, ◌≤◌, ◌<◌, ◌++◌, ◌∙◌, ℕ, List, [], Option, Some, None, length, take, drop, arith, sym, ap, refl, subst, length-append, append-nil, Bool, true, false, IsTrue, ◌↔◌}
use Rattle.std.proofs.Math.Seq.{take-append_seam}
use Rattle.std.proofs.lemmas.List.{take-append-drop, length-drop, length-take-le, take_all, nil_from_length}
use Rattle.std.specs.Io.KnownBytes.{Consumes, IsAtEnd}
use Rattle.shelf.specs.WebOutside.View.{SourceView}
use Rattle.shelf.specs.PageJournal.Records.{behind}
use Rattle.shelf.proofs.PageJournal.Scans.{behind_is}
use Rattle.page_follower.specs.Feed.{feed_head}
use Rattle.page_follower.specs.Reading.{Got, IsHeadCut, IsNoHead, Gives}

-- bytes that are no front of a longer text do not go on to it
no_front : (text bytes : List ℕ) → (bytes ≡ take (length bytes) text → ⊥) → behind bytes text ≡ None
no_front text bytes differ = cases (behind bytes text) refl
  where
    cases : (o : Option (List ℕ)) → behind bytes text ≡ o → o ≡ None
    cases None is = refl
    cases (Some rest) is =
        absurd (differ (sym (ap (take (length bytes)) (behind_is bytes text rest is) ∙ take-append_seam bytes rest)))

-- and they don't begin with it
no_start : (text bytes : List ℕ) → length bytes ≤ length text → (bytes ≡ take (length bytes) text → ⊥) → behind text bytes ≡ None
no_start text bytes few differ = cases (behind text bytes) refl
  where
    cases : (o : Option (List ℕ)) → behind text bytes ≡ o → o ≡ None
    cases None is = refl
    cases (Some rest) is =
        let whole : bytes ≡ text ++ rest = behind_is text bytes rest is in
        let none : rest ≡ [] = nil_from_length rest (let l = length-append text rest in let m = ap length whole in omega arith) in
        let same : bytes ≡ text = whole ∙ ap (λ l. text ++ l) none ∙ append-nil text in
        absurd (differ (same ∙ sym (ap (λ n. take n text) (ap length same) ∙ (let e = take-append_seam text [] in subst (λ l. take (length text) l ≡ text) (append-nil text) e))))

-- the first bytes that came are not those of a feed
pub other_head : (old new : SourceView) (before after : ℕ) (buffer piece : List ℕ) (count : ℕ) (r : Bool) → Gives old new before after buffer count
    → length buffer ≡ 8 → piece ≡ take count buffer → (IsTrue r ↔ (take (length piece) feed_head ≡ piece)) → r ≡ false → IsNoHead old.left new.left
other_head old new before after buffer piece count r gives eight is told wrong =
    let w = gives.within in
    let size : length piece ≡ count = ap length is ∙ length-take-le count buffer gives.within in
    let other : piece ≡ take (length piece) feed_head → ⊥ = λ e. absurd (let fits : r ≡ true = told.1 (sym e) in let never : ⊥ = cc in never) in
    record {
      bytes = piece;
      consumed = subst (Consumes old.left new.left) (sym is) gives.got.consumed;
      other = no_start feed_head piece (let e : length feed_head ≡ 8 = refl in omega arith) other;
      no_front = no_front feed_head piece other;
    }

-- the first bytes that came are a front of a feed's head, and then the source ended
pub head_cut : (old new : SourceView) (before after : ℕ) (buffer piece : List ℕ) (count : ℕ) (r : Bool) → Gives old new before after buffer count
    → count < 8 → piece ≡ take count buffer → (IsTrue r ↔ (take (length piece) feed_head ≡ piece)) → r ≡ true → IsAtEnd new.left
    → IsHeadCut old.left new.left
head_cut old new before after buffer piece count r gives few is told right end =
    let size : length piece ≡ count = ap length is ∙ length-take-le count buffer gives.within in
    let same : take (length piece) feed_head ≡ piece = told.0 right in
    record {
      rest = piece;
      missing = drop (length piece) feed_head;
      consumed = subst (Consumes old.left new.left) (sym is) gives.got.consumed;
      is = sym (ap (λ l. l ++ drop (length piece) feed_head) (sym same) ∙ take-append-drop (length piece) feed_head);
      some = let l = length-drop (length piece) feed_head in let e : length feed_head ≡ 8 = refl in omega arith;
      end = end;
    }

-- all of the head came
pub whole_head : (old new : SourceView) (before after : ℕ) (buffer piece : List ℕ) (count : ℕ) (r : Bool) → Gives old new before after buffer count
    → 8 ≤ count → piece ≡ take count buffer → (IsTrue r ↔ (take (length piece) feed_head ≡ piece)) → r ≡ true
    → Got old new before after feed_head
whole_head old new before after buffer piece count r gives all is told right =
    let size : length piece ≡ count = ap length is ∙ length-take-le count buffer gives.within in
    let whole : feed_head ≡ piece = sym (take_all (length piece) feed_head (let e : length feed_head ≡ 8 = refl in omega arith)) ∙ told.0 right in
    subst (Got old new before after) (sym is ∙ sym whole) gives.got
