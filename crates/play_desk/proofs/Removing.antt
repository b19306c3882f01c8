-- Lists without what stood in a place.
use Rattle.std.proofs.Common.{◌≡◌, ◌≢◌, ◌∙◌, ap, refl, ℕ, ◌+◌, ◌<◌, zero, suc, List, [], ◌∷◌, ◌++◌, length, map, take, drop, slice_get, slice_set, Some, None, arith}
use Rattle.std.specs.Prelude.{insert, sum_by}
use Rattle.std.proofs.lemmas.List.Sums.{sum_by-cons}

-- a list without what stands in this place
abbrev pub out_of : {A : Type 0} → List A → (place : ℕ) → List A
out_of [] k = []
out_of (x ∷ xs) zero = xs
out_of (x ∷ xs) (suc k) = x ∷ out_of xs k

-- the place there of what stands in a place of the shorter list
abbrev pub skip : (place at : ℕ) → ℕ
skip zero j = suc j
skip (suc k) zero = zero
skip (suc k) (suc j) = suc (skip k j)

pub taken_out : {A : Type 0} (xs : List A) (k : ℕ) → k < length xs → take k xs ++ drop (k + 1) xs ≡ out_of xs k
taken_out [] k h = absurd (omega arith)
taken_out (x ∷ xs) zero h = refl
taken_out (x ∷ xs) (suc k) h =
    let is : suc k + 1 ≡ suc (k + 1) = omega arith in
    ap (λ n. take (suc k) (x ∷ xs) ++ drop n (x ∷ xs)) is ∙ ap (λ ys. x ∷ ys) (taken_out xs k (omega arith))

pub put_in : {A : Type 0} (xs : List A) (k : ℕ) (y : A) → k < length xs → insert (out_of xs k) k y ≡ slice_set xs k y
put_in [] k y h = absurd (omega arith)
put_in (x ∷ xs) zero y h = refl
put_in (x ∷ xs) (suc k) y h = ap (λ ys. x ∷ ys) (put_in xs k y (omega arith))

pub map_out : {A B : Type 0} (f : A → B) (xs : List A) (k : ℕ) → map f (out_of xs k) ≡ out_of (map f xs) k
map_out f [] k = refl
map_out f (x ∷ xs) zero = refl
map_out f (x ∷ xs) (suc k) = ap (λ ys. f x ∷ ys) (map_out f xs k)

pub at_out : {A : Type 0} (xs : List A) (k j : ℕ) → slice_get (out_of xs k) j ≡ slice_get xs (skip k j)
at_out [] k j = refl
at_out (x ∷ xs) zero j = refl
at_out (x ∷ xs) (suc k) zero = refl
at_out (x ∷ xs) (suc k) (suc j) = at_out xs k j

pub skip_apart : (k i j : ℕ) → skip k i ≡ skip k j → i ≡ j
skip_apart zero i j e = omega (arith, e)
skip_apart (suc k) zero zero e = refl
skip_apart (suc k) zero (suc j) e = absurd (omega (arith, e))
skip_apart (suc k) (suc i) zero e = absurd (omega (arith, e))
skip_apart (suc k) (suc i) (suc j) e = ap suc (skip_apart k i j (omega (arith, e)))

pub skip_not : (k j : ℕ) → skip k j ≢ k
skip_not zero j e = omega (arith, e)
skip_not (suc k) zero e = omega (arith, e)
skip_not (suc k) (suc j) e = skip_not k j (omega (arith, e))

-- what stands in another place stands there
pub still_in : {A : Type 0} (xs : List A) (k i : ℕ) (x : A) → i ≢ k → slice_get xs i ≡ Some x → (j : ℕ) × (slice_get (out_of xs k) j ≡ Some x)
still_in [] k i x other e = absurd (let no : None ≡ Some x = e in cc)
still_in (y ∷ xs) zero zero x other e = absurd (other refl)
still_in (y ∷ xs) zero (suc i) x other e = (i, e)
still_in (y ∷ xs) (suc k) zero x other e = (0, e)
still_in (y ∷ xs) (suc k) (suc i) x other e = (let rest = still_in xs k i x (λ same. other (ap suc same)) e in (suc rest.0, rest.1))

pub sum_out : {A : Type 0} (f : A → ℕ) (xs : List A) (k : ℕ) (x : A) → slice_get xs k ≡ Some x → f x + sum_by f (out_of xs k) ≡ sum_by f xs
sum_out f [] k x e = absurd (let no : None ≡ Some x = e in cc)
sum_out f (z ∷ xs) zero x e = (let same : z ≡ x = cc in omega (arith, sum_by-cons f z xs, ap f same))
sum_out f (z ∷ xs) (suc k) x e =
    (let rest = sum_out f xs k x e in omega (arith, rest, sum_by-cons f z xs, sum_by-cons f z (out_of xs k)))
