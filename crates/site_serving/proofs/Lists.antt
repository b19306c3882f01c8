-- Lists that go place by place, and their reverse.
use Rattle.std.proofs.Common.{◌≡◌, ◌<◌, ◌++◌, ◌∷◌, [], ℕ, zero, suc, List, map, length, take, get_or, Some, slice_get, refl, sym, ap, subst, ◌∙◌, arith}
use Rattle.std.specs.Prelude.{reverse}
use Rattle.std.specs.List.{AllZip}
use Rattle.std.proofs.lemmas.List.{reverse-append}
use Rattle.std.proofs.lemmas.List.Elements.{AllZip-push}

pub zip_of : {A : Type 0} (R : A → A → Type 0) (xs ys : List A) → length ys ≡ length xs → ((k : ℕ) (d : A) → k < length xs → R (get_or xs k d) (get_or ys k d)) → AllZip R xs ys
zip_of R [] [] len each = tt
zip_of R [] (y ∷ ys) len each = absurd (let no : ⊥ = cc len in no)
zip_of R (x ∷ xs) [] len each = absurd (let no : ⊥ = cc len in no)
zip_of R (x ∷ xs) (y ∷ ys) len each = (each 0 x (omega arith), zip_of R xs ys (omega (arith, len)) (λ k d lt. each (suc k) d (omega (arith, lt))))

pub zip_reverse : {A : Type 0} (R : A → A → Type 0) (xs ys : List A) → AllZip R xs ys → AllZip R (reverse xs) (reverse ys)
zip_reverse R [] [] all = tt
zip_reverse R [] (y ∷ ys) all = absurd all
zip_reverse R (x ∷ xs) [] all = absurd all
zip_reverse R (x ∷ xs) (y ∷ ys) all =
    rw (reverse-append (x ∷ []) xs, reverse-append (y ∷ []) ys) (AllZip-push R (reverse xs) (reverse ys) x y (zip_reverse R xs ys all.1) all.0)

-- what holds of each place holds of each item
pub each_get : {A : Type 0} (P : A → Type 0) (xs : List A) → ((k : ℕ) (d : A) → k < length xs → P (get_or xs k d)) → (k : ℕ) (x : A) → slice_get xs k ≡ Some x → P x
each_get P [] each k x is = absurd (let no : ⊥ = cc is in no)
each_get P (y ∷ ys) each zero x is = subst P (let same : y ≡ x = cc is in same) (each 0 y (omega arith))
each_get P (y ∷ ys) each (suc k) x is = each_get P ys (λ j d lt. each (suc j) d (omega (arith, lt))) k x is

pub get_each : {A : Type 0} (P : A → Type 0) (xs : List A) → ((k : ℕ) (x : A) → slice_get xs k ≡ Some x → P x) → (k : ℕ) (d : A) → k < length xs → P (get_or xs k d)
get_each P [] each k d lt = absurd (omega (arith, lt))
get_each P (y ∷ ys) each zero d lt = each 0 y refl
get_each P (y ∷ ys) each (suc k) d lt = get_each P ys (λ j x is. each (suc j) x is) k d (omega (arith, lt))

pub front_of : {A : Type 0} (xs rest : List A) (n : ℕ) → n ≡ length xs → take n (xs ++ rest) ≡ xs
front_of {A} xs rest n is = ap (λ m. take m (xs ++ rest)) is ∙ front xs
  where
    take_none : (l : List A) → take 0 l ≡ []
    take_none [] = refl
    take_none (z ∷ zs) = refl

    front : (l : List A) → take (length l) (l ++ rest) ≡ l
    front [] = take_none rest
    front (y ∷ ys) = ap (λ l. y ∷ l) (front ys)

-- what holds of each item of two lists holds of each of both
each_append : {A : Type 0} (P : A → Type 0) (xs ys : List A) → ((k : ℕ) (x : A) → slice_get xs k ≡ Some x → P x) → ((k : ℕ) (x : A) → slice_get ys k ≡ Some x → P x)
    → (k : ℕ) (x : A) → slice_get (xs ++ ys) k ≡ Some x → P x
each_append P [] ys one two k x is = two k x is
each_append P (y ∷ xs) ys one two zero x is = one 0 x is
each_append P (y ∷ xs) ys one two (suc k) x is = each_append P xs ys (λ j z e. one (suc j) z e) two k x is

pub each_reverse : {A : Type 0} (P : A → Type 0) (xs : List A) → ((k : ℕ) (x : A) → slice_get xs k ≡ Some x → P x) → (k : ℕ) (x : A) → slice_get (reverse xs) k ≡ Some x → P x
each_reverse P [] each k x is = absurd (let no : ⊥ = cc is in no)
each_reverse {A} P (y ∷ xs) each k x is =
    each_append P (reverse xs) (y ∷ []) (each_reverse P xs (λ j z e. each (suc j) z e)) one k x (ap (λ l. slice_get l k) (sym (reverse-append (y ∷ []) xs)) ∙ is)
  where
    one : (j : ℕ) (z : A) → slice_get (y ∷ []) j ≡ Some z → P z
    one zero z e = each 0 z e
    one (suc j) z e = absurd (let no : ⊥ = cc e in no)

-- what holds of each mapped item
pub each_mapped : {A B : Type 0} (f : A → B) (P : B → Type 0) (xs : List A) → ((k : ℕ) (x : A) → slice_get xs k ≡ Some x → P (f x)) → (k : ℕ) (y : B) → slice_get (map f xs) k ≡ Some y → P y
each_mapped f P [] each k y is = absurd (let no : ⊥ = cc is in no)
each_mapped f P (x ∷ xs) each zero y is = subst P (let same : f x ≡ y = cc is in same) (each 0 x refl)
each_mapped f P (x ∷ xs) each (suc k) y is = each_mapped f P xs (λ j z e. each (suc j) z e) k y is

pub each_unmapped : {A B : Type 0} (f : A → B) (P : B → Type 0) (xs : List A) → ((k : ℕ) (y : B) → slice_get (map f xs) k ≡ Some y → P y) → (k : ℕ) (x : A) → slice_get xs k ≡ Some x → P (f x)
each_unmapped f P [] each k x is = absurd (let no : ⊥ = cc is in no)
each_unmapped f P (z ∷ xs) each zero x is = subst (λ w. P (f w)) (let same : z ≡ x = cc is in same) (each 0 (f z) refl)
each_unmapped f P (z ∷ xs) each (suc k) x is = each_unmapped f P xs (λ j y e. each (suc j) y e) k x is
