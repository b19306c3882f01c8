-- Places of lists that are read and written.
use Rattle.std.proofs.Common.{◌≡◌, ◌≢◌, ◌⊎◌, inl, inr, ap, sym, refl, ℕ, ◌+◌, ◌<◌, ◌==◌, ◌++◌, ◌∙◌, true, false, zero, suc, List, [], ◌∷◌, length, replicate, take, slice_get, slice_set, slice_index_or, Some, None, arith}
use Rattle.std.proofs.lemmas.Bool.{eq-eqb}
use Rattle.std.proofs.lemmas.Option.{same_Some}

pub get_set : {A : Type 0} (xs : List A) (i : ℕ) (x : A) → i < length xs → slice_get (slice_set xs i x) i ≡ Some x
get_set [] i x h = absurd (omega arith)
get_set (y ∷ xs) zero x h = refl
get_set (y ∷ xs) (suc i) x h = get_set xs i x (omega arith)

pub get_other : {A : Type 0} (xs : List A) (i j : ℕ) (x : A) → i ≢ j → slice_get (slice_set xs i x) j ≡ slice_get xs j
get_other [] i j x other = refl
get_other (y ∷ xs) zero zero x other = absurd (other refl)
get_other (y ∷ xs) zero (suc j) x other = refl
get_other (y ∷ xs) (suc i) zero x other = refl
get_other (y ∷ xs) (suc i) (suc j) x other = get_other xs i j x (λ e. other (ap suc e))

-- writing what is there changes nothing
pub same_set : {A : Type 0} (xs : List A) (i : ℕ) (x : A) → slice_get xs i ≡ Some x → slice_set xs i x ≡ xs
same_set [] i x e = refl
same_set (y ∷ xs) zero x e = (let is : y ≡ x = cc in ap (λ z. z ∷ xs) (sym is))
same_set (y ∷ xs) (suc i) x e = ap (λ ys. y ∷ ys) (same_set xs i x e)

-- what stands at a place once one was written
pub at_set : {A : Type 0} (xs : List A) (i w : ℕ) (x u : A) → slice_get (slice_set xs i x) w ≡ Some u
    → ((w ≡ i) × (x ≡ u)) ⊎ ((w ≢ i) × (slice_get xs w ≡ Some u))
at_set [] i w x u h = absurd (cc)
at_set (y ∷ xs) zero zero x u h = inl (refl, cc)
at_set (y ∷ xs) zero (suc w) x u h = inr ((λ e. omega (arith, e)), h)
at_set (y ∷ xs) (suc i) zero x u h = inr ((λ e. omega (arith, e)), h)
at_set (y ∷ xs) (suc i) (suc w) x u h =
    elim (at_set xs i w x u h) [ inl p ↦ inl (ap suc p.0, p.1) | inr p ↦ inr ((λ e. p.0 (omega (arith, e))), p.1) ]

-- nobody holds anything among those who hold nothing
pub none_there : {A : Type 0} (n w : ℕ) (t : A) → slice_get (replicate n None) w ≡ Some (Some t) → ⊥
none_there zero w t h = absurd (cc)
none_there (suc n) zero t h = absurd (cc)
none_there (suc n) (suc w) t h = none_there n w t h

-- what stands in a list with one more
pub in_push : {A : Type 0} (xs : List A) (x : A) (k : ℕ) (u : A) → slice_get (xs ++ x ∷ []) k ≡ Some u → (slice_get xs k ≡ Some u) ⊎ (x ≡ u)
in_push [] x zero u e = inr (same_Some x u e)
in_push [] x (suc k) u e = absurd (let no : None ≡ Some u = e in cc)
in_push (y ∷ xs) x zero u e = inl e
in_push (y ∷ xs) x (suc k) u e = in_push xs x k u e

pub not_same : (a b : ℕ) → (a == b) ≡ false → a ≢ b
not_same a b test is = absurd (let yes = eq-eqb a b is in let no : true ≡ false = sym yes ∙ test in cc)

-- what stands at an index that is there
pub at_index : {A : Type 0} (xs : List A) (k : ℕ) (x d : A) → k < length xs → x ≡ slice_index_or xs k d → slice_get xs k ≡ Some x
at_index [] k x d h e = absurd (omega arith)
at_index (y ∷ xs) zero x d h e = ap Some (sym e)
at_index (y ∷ xs) (suc k) x d h e = at_index xs k x d (omega arith) e

-- one more of what a list begins with
pub take_more : {A : Type 0} (xs : List A) (k : ℕ) (x : A) → slice_get xs k ≡ Some x → take (k + 1) xs ≡ take k xs ++ x ∷ []
take_more [] k x e = absurd (let no : None ≡ Some x = e in cc)
take_more (y ∷ xs) zero x e = ap (λ z. z ∷ []) (same_Some y x e)
take_more (y ∷ xs) (suc k) x e =
    let is : suc k + 1 ≡ suc (k + 1) = omega arith in
    ap (λ n. take n (y ∷ xs)) is ∙ ap (λ ys. y ∷ ys) (take_more xs k x e)
