-- A shadow binds its cell alone.
use Rattle.std.proofs.Common.{◌≡◌, ◌==◌, ℕ, ◌<◌, subst, List, [], ◌∷◌, Some, Bool, true, false, cond, refl, arith, nat_lt}
use Rattle.std.specs.Prelude.{if◌then◌else◌}
use Rattle.std.specs.List.{AllByRecursion}
use Rattle.std.proofs.lemmas.Bool.Decides.{nat_tests}
use Rattle.script_value.specs.Val.{Val}
use Rattle.web_cells.specs.Shadows.{bound_to, binding, AreAbove, Rise}
use Rattle.web_cells.specs.Laws.{AShadowBindsItsCell, TheLastShadowBinds, ShadowsRise}

pub shadowed : AShadowBindsItsCell
shadowed c d v [] = refl
shadowed c d v (s ∷ ss) = by_less (nat_lt c s.0) refl (shadowed c d v ss)
  where
    -- after the place of the cell
    behind : (t : Bool) → (s.0 == d) ≡ t → (c == s.0) ≡ false → binding d (bound_to c v ss) ≡ (if c == d then Some v else binding d ss)
        → (if t then Some s.1 else binding d (bound_to c v ss)) ≡ (if c == d then Some v else (if t then Some s.1 else binding d ss))
    behind true e other later = let no : (c == d) ≡ false = grind (arith, nat_tests) in rw no refl
    behind false e other later = later

    -- at the place of the cell
    here : (t : Bool) → (c == d) ≡ t → (c == s.0) ≡ true → (if t then Some v else binding d ss) ≡ (if t then Some v else (if s.0 == d then Some s.1 else binding d ss))
    here true e same = refl
    here false e same = let no : (s.0 == d) ≡ false = grind (arith, nat_tests) in rw no refl

    by_equal : (t : Bool) → (c == s.0) ≡ t → nat_lt c s.0 ≡ false → binding d (bound_to c v ss) ≡ (if c == d then Some v else binding d ss)
        → binding d (bound_to c v (s ∷ ss)) ≡ (if c == d then Some v else binding d (s ∷ ss))
    by_equal true e less later = rw (less, e) (here (c == d) refl e)
    by_equal false e less later = rw (less, e) (behind (s.0 == d) refl e later)

    by_less : (t : Bool) → nat_lt c s.0 ≡ t → binding d (bound_to c v ss) ≡ (if c == d then Some v else binding d ss)
        → binding d (bound_to c v (s ∷ ss)) ≡ (if c == d then Some v else binding d (s ∷ ss))
    by_less true e later = rw e refl
    by_less false e later = by_equal (c == s.0) refl e later

pub last_binds : TheLastShadowBinds
last_binds d [] ss = refl
last_binds d (s ∷ made) ss = rw (last_binds d made (bound_to s.0 s.1 ss), shadowed s.0 d s.1 ss) refl

above_bound : (a c : ℕ) (v : Val) (ss : List (ℕ × Val)) → a < c → AreAbove a ss → AreAbove a (bound_to c v ss)
above_bound a c v [] h k = (h, tt)
above_bound a c v (s ∷ ss) h k = by_less (nat_lt c s.0) (above_bound a c v ss h k.1)
  where
    by_equal : (t : Bool) → AreAbove a (bound_to c v ss) → AreAbove a (if t then (c, v) ∷ ss else s ∷ bound_to c v ss)
    by_equal true later = (h, k.1)
    by_equal false later = (k.0, later)

    by_less : (t : Bool) → AreAbove a (bound_to c v ss)
        → AreAbove a (if t then (c, v) ∷ s ∷ ss else (if c == s.0 then (c, v) ∷ ss else s ∷ bound_to c v ss))
    by_less true later = (h, k)
    by_less false later = by_equal (c == s.0) later

above_lower : (a c : ℕ) (ss : List (ℕ × Val)) → a < c → AreAbove c ss → AreAbove a ss
above_lower a c [] h k = tt
above_lower a c (s ∷ ss) h k = (let l = k.0 in omega arith, above_lower a c ss h k.1)

pub rise : ShadowsRise
rise c v [] h = (tt, tt)
rise c v (s ∷ ss) h = by_less (nat_lt c s.0) refl (rise c v ss h.1)
  where
    by_equal : (t : Bool) → (c == s.0) ≡ t → nat_lt c s.0 ≡ false → Rise (bound_to c v ss) → Rise (if t then (c, v) ∷ ss else s ∷ bound_to c v ss)
    by_equal true e less later = let same : s.0 ≡ c = grind (arith, nat_tests) in (subst (λ n. AreAbove n ss) same h.0, h.1)
    by_equal false e less later = let l : s.0 < c = grind (arith, nat_tests) in (above_bound s.0 c v ss l h.0, later)

    by_less : (t : Bool) → nat_lt c s.0 ≡ t → Rise (bound_to c v ss)
        → Rise (if t then (c, v) ∷ s ∷ ss else (if c == s.0 then (c, v) ∷ ss else s ∷ bound_to c v ss))
    by_less true e later = let l : c < s.0 = grind (arith, nat_tests) in ((l, above_lower c s.0 ss l h.0), h)
    by_less false e later = by_equal (c == s.0) refl e later

-- ---- the cells stay below a number

by_cond : (n : ℕ) (b : Bool) (x y : List (ℕ × Val)) → AllByRecursion (λ s. s.0 < n) x → AllByRecursion (λ s. s.0 < n) y → AllByRecursion (λ s. s.0 < n) (cond b x y)
by_cond n true x y p q = p
by_cond n false x y p q = q

pub bound_named : (n c : ℕ) (v : Val) (ss : List (ℕ × Val)) → c < n → AllByRecursion (λ s. s.0 < n) ss → AllByRecursion (λ s. s.0 < n) (bound_to c v ss)
bound_named n c v [] k h = (k, tt)
bound_named n c v (s ∷ ss) k h =
    by_cond n (nat_lt c s.0) _ _ (k, h) (by_cond n (c == s.0) _ _ (k, h.1) (h.0, bound_named n c v ss k h.1))
