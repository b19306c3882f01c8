-- Reading one after the other, as a loop does.
use Rattle.std.proofs.Common.{◌≡◌, ℕ, zero, suc, ◌+◌, ◌-◌, ◌<◌, ◌≤◌, List, [], ◌∷◌, ◌++◌, Option, Some, None, refl, sym, ap, ◌∙◌, append_assoc, arith}
use Rattle.std.proofs.lemmas.List.{append-nil}
use Rattle.script_value.specs.Pieces.{◌>>=◌}
use Rattle.value_bytes.specs.Reading.{Reader, read_several}

-- what was read before, and what is still read
abbrev pub with_front : {A : Type 0} → List A → Option (List A × List ℕ) → Option (List A × List ℕ)
with_front front None = None
with_front front (Some read) = Some (front ++ read.0, read.1)

regroup : {A : Type 0} (front : List A) (x : A) (o : Option (List A × List ℕ))
    → with_front front (o >>= λ xs. Some (x ∷ xs.0, xs.1)) ≡ with_front (front ++ x ∷ []) o
regroup front x None = refl
regroup front x (Some read) = ap (λ ys. Some (ys, read.1)) (sym (append_assoc front (x ∷ []) read.0))

several : {A : Type 0} (read : Reader A) (k : ℕ) (bytes : List ℕ) → 0 < k
    → read_several read k bytes ≡ (read bytes >>= λ x. (read_several read (k - 1) x.1 >>= λ xs. Some (x.0 ∷ xs.0, xs.1)))
several read zero bytes h = absurd (omega arith)
several read (suc k) bytes h =
    let left : k ≡ suc k - 1 = omega arith in
    ap (λ (m : ℕ). read bytes >>= λ x. (read_several read m x.1 >>= λ xs. Some (x.0 ∷ xs.0, xs.1))) left

-- one more is read
pub one_more : {A : Type 0} (read : Reader A) (n i : ℕ) (front : List A) (bytes : List ℕ) (x : A) (rest : List ℕ) → i < n → read bytes ≡ Some (x, rest)
    → with_front (front ++ x ∷ []) (read_several read (n - (i + 1)) rest) ≡ with_front front (read_several read (n - i) bytes)
one_more read n i front bytes x rest h e =
    let left : n - i - 1 ≡ n - (i + 1) = omega arith in
    sym (
    ap (λ o. with_front front o) (several read (n - i) bytes (omega arith))
    ∙ ap (λ o. with_front front (o >>= λ y. (read_several read (n - i - 1) y.1 >>= λ xs. Some (y.0 ∷ xs.0, xs.1)))) e
    ∙ regroup front x (read_several read (n - i - 1) rest)
    ∙ ap (λ k. with_front (front ++ x ∷ []) (read_several read k rest)) left
    )

-- where one is none, so are all
pub no_more : {A : Type 0} (read : Reader A) (n i : ℕ) (front : List A) (bytes : List ℕ) → i < n → read bytes ≡ None
    → with_front front (read_several read (n - i) bytes) ≡ None
no_more read n i front bytes h e =
    ap (λ o. with_front front o) (several read (n - i) bytes (omega arith) ∙ ap (λ o. o >>= λ x. (read_several read (n - i - 1) x.1 >>= λ xs. Some (x.0 ∷ xs.0, xs.1))) e)

-- none is left
pub at_end : {A : Type 0} (read : Reader A) (n i : ℕ) (front : List A) (bytes : List ℕ) → n ≤ i
    → with_front front (read_several read (n - i) bytes) ≡ Some (front, bytes)
at_end read n i front bytes h =
    let none : n - i ≡ 0 = omega arith in
    ap (λ k. with_front front (read_several read k bytes)) none ∙ ap (λ xs. Some (xs, bytes)) (append-nil front)

-- nothing was read
pub at_start : {A : Type 0} (o : Option (List A × List ℕ)) → with_front [] o ≡ o
at_start None = refl
at_start (Some read) = refl
