-- Where a shadow is put.
use Rattle.std.proofs.Common.{◌≡◌, ◌==◌, ℕ, zero, suc, ◌<◌, ◌≤◌, List, [], ◌∷◌, map, length, drop, set, true, false, refl, ap, subst, ◌∙◌, ◌≢◌, arith, nat_lt, get_or}
use Rattle.std.specs.List.{insert}
use Rattle.std.proofs.lemmas.Bool.Decides.{nat_tests}
use Rattle.script_value.specs.Val.{Val}
use Rattle.script_value.specs.Views.{meaning}
use Rattle.web_cells.specs.Shadows.{bound_to}
use Rattle.web_cells.specs.Views.{pair_of}
use Rattle.web_cells.specs.Places.{Below, NotBelow, IsAt}
use Rattle.web_cells.specs.declared.shades.Shadow.{Shadow}

-- after the bindings of lower cells
behind : (s x : Shadow) (rest : List (ℕ × Val)) → x.cell < s.cell → bound_to s.cell (meaning s.value) (pair_of x ∷ rest) ≡ pair_of x ∷ bound_to s.cell (meaning s.value) rest
behind s x rest h =
    let less : nat_lt s.cell x.cell ≡ false = grind (arith, nat_tests) in
    let other : (s.cell == x.cell) ≡ false = grind (arith, nat_tests) in rw (less, other) refl

-- in the place of the binding of this cell
pub replaced : (ss : List Shadow) (k : ℕ) (s : Shadow) → Below s.cell k ss → IsAt s.cell (drop k ss)
    → bound_to s.cell (meaning s.value) (map pair_of ss) ≡ map pair_of (set ss k s)
replaced [] zero s below here = absurd here
replaced [] (suc k) s below here = absurd here
replaced (y ∷ ss) zero s below here =
    let less : nat_lt s.cell y.cell ≡ false = grind (arith, nat_tests) in
    let equal : (s.cell == y.cell) ≡ true = grind (arith, nat_tests) in rw (less, equal) refl
replaced (y ∷ ss) (suc k) s below here =
    behind s y (map pair_of ss) below.0 ∙ ap (λ (l : List (ℕ × Val)). pair_of y ∷ l) (replaced ss k s below.1 here)

-- before the first of a higher cell
pub inserted : (ss : List Shadow) (k : ℕ) (s : Shadow) → Below s.cell k ss → k ≤ length ss → NotBelow s.cell (drop k ss) → (IsAt s.cell (drop k ss) → ⊥)
    → bound_to s.cell (meaning s.value) (map pair_of ss) ≡ map pair_of (insert ss k s)
inserted [] zero s below within above other = refl
inserted [] (suc k) s below within above other = absurd (omega (arith, within))
inserted (y ∷ ss) zero s below within above other =
    let apart : y.cell ≢ s.cell = other in
    let less : nat_lt s.cell y.cell ≡ true = grind (arith, nat_tests) in rw less refl
inserted (y ∷ ss) (suc k) s below within above other =
    behind s y (map pair_of ss) below.0 ∙ ap (λ (l : List (ℕ × Val)). pair_of y ∷ l) (inserted ss k s below.1 (omega (arith, within)) above other)

pub below_next : (c k : ℕ) (ss : List Shadow) (x : Shadow) → k < length ss → x ≡ get_or ss k x → x.cell < c → Below c k ss → Below c (suc k) ss
below_next c k [] x within is less below = absurd (omega (arith, within))
below_next c zero (y ∷ ss) x within is less below = (subst (λ (z : Shadow). z.cell < c) is less, tt)
below_next c (suc k) (y ∷ ss) x within is less below = (below.0, below_next c k ss x (omega (arith, within)) is less below.1)
