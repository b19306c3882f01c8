-- Marks of pages that are kept in order.
use Rattle.std.proofs.Common.{◌≡◌, ℕ, zero, suc, ◌==◌, List, [], ◌∷◌, ◌++◌, ◌≤◌, append-nil, drop, map, length, Option, Some, None, Bool, true, false, refl, arith}
use Rattle.std.proofs.lemmas.Bool.Decides.{nat_tests}
use Rattle.replay_spec.specs.Book.{Use}
use Rattle.replay_spec.specs.Change.{used_by}
use Rattle.replay_spec.specs.Invariant.{AreAbove, IsRising}
use Rattle.replay_spec.specs.Marks.{Mark, number_of, uses_of}
use Rattle.instance_book.specs.declared.numbered.Numbered.{Numbered}
use Rattle.instance_book.specs.declared.page.KeptPage.{KeptPage}
use Rattle.instance_book.specs.Views.{mark_of}
use Rattle.book_visits.specs.Uses.{used_one}

-- ---- uses one by one

apart_used : (p n m : ℕ) (us : List Use) → p ≡ m → AreAbove (λ (u : Use). u.page) m us → us ≡ map (used_one p n) us
apart_used p n m [] e h = refl
apart_used p n m (u ∷ us) e h =
    let low = h.0 in
    let other : (u.page == p) ≡ false = grind (arith, nat_tests, low, e) in
    let rest = apart_used p n m us e h.1 in grind (arith, other, rest)

used_each : (p n : ℕ) (us : List Use) → IsRising (λ (u : Use). u.page) us → used_by p n us ≡ map (used_one p n) us
used_each p n [] rising = refl
used_each p n (u ∷ us) rising = by_test (u.page == p) refl (used_each p n us rising.1)
  where
    by_test : (b : Bool) → (u.page == p) ≡ b → used_by p n us ≡ map (used_one p n) us → used_by p n (u ∷ us) ≡ map (used_one p n) (u ∷ us)
    by_test true e rest =
        let same : p ≡ u.page = grind (arith, nat_tests, e) in
        let apart = apart_used p n u.page us same rising.0 in grind (arith, e, apart)
    by_test false e rest = grind (arith, e, rest)

above_uses : (n : ℕ) (ms : List Mark) → AreAbove number_of n ms → AreAbove (λ (u : Use). u.page) n (uses_of ms)
above_uses n [] h = tt
above_uses n (m ∷ ms) h = by_gone m.gone refl (above_uses n ms h.1)
  where
    by_gone : (o : Option ℕ) → m.gone ≡ o → AreAbove (λ (u : Use). u.page) n (uses_of ms) → AreAbove (λ (u : Use). u.page) n (uses_of (m ∷ ms))
    by_gone None f rest = let low = h.0 in grind (arith, f, rest, low)
    by_gone (Some b) f rest = grind (arith, f, rest)

uses_rise : (ms : List Mark) → IsRising number_of ms → IsRising (λ (u : Use). u.page) (uses_of ms)
uses_rise [] h = tt
uses_rise (m ∷ ms) h = by_gone m.gone refl (above_uses m.number ms h.0) (uses_rise ms h.1)
  where
    by_gone : (o : Option ℕ) → m.gone ≡ o → AreAbove (λ (u : Use). u.page) m.number (uses_of ms) → IsRising (λ (u : Use). u.page) (uses_of ms) → IsRising (λ (u : Use). u.page) (uses_of (m ∷ ms))
    by_gone None f above rest = grind (arith, f, above, rest)
    by_gone (Some b) f above rest = grind (arith, f, rest)

pub used_of_each : (p n : ℕ) (ms : List Mark) → IsRising number_of ms → used_by p n (uses_of ms) ≡ map (used_one p n) (uses_of ms)
used_of_each p n ms rising = used_each p n (uses_of ms) (uses_rise ms rising)

-- one page after the other
pub used_up : (p n : ℕ) (xs : List (Numbered KeptPage)) (k : ℕ) (us : List Use) → length xs ≤ k → us ++ map (used_one p n) (uses_of (map mark_of (drop k xs))) ≡ us
used_up p n [] zero us h = append-nil us
used_up p n [] (suc k) us h = append-nil us
used_up p n (x ∷ xs) zero us h = absurd (omega arith)
used_up p n (x ∷ xs) (suc k) us h = used_up p n xs k us (omega arith)
