-- The part of a buffer that is kept.
use Rattle.std.proofs.Common.{◌≡◌, ◌-◌, ◌+◌, ◌++◌, ℕ, List, length, take, drop, ap, sym, subst, ◌∙◌}
use Rattle.std.proofs.Math.Seq.{take-length}
use Rattle.std.proofs.lemmas.List.{drop-drop, length-drop, take-append-drop}

-- a part from a place on, with as many as are there, is all that stands there
pub whole_rest : (start : ℕ) (xs : List ℕ) → take (length xs - start) (drop start xs) ≡ drop start xs
whole_rest start xs = ap (λ n. take n (drop start xs)) (sym (length-drop start xs)) ∙ take-length (drop start xs)

-- without its front, a part is the rest of it
split_at_front : (n start : ℕ) (xs : List ℕ) → drop start xs ≡ take n (take (length xs - start) (drop start xs)) ++ drop (start + n) xs
split_at_front n start xs =
    sym (take-append-drop n (drop start xs)) ∙ ap (λ rest. take n (drop start xs) ++ rest) (drop-drop n start xs)
    ∙ ap (λ part. take n part ++ drop (start + n) xs) (sym (whole_rest start xs))

-- the same, where the part is read from a copy
pub split_copy : (n start : ℕ) (xs ys : List ℕ) → ys ≡ xs → drop start xs ≡ take n (take (length ys - start) (drop start ys)) ++ drop (start + n) xs
split_copy n start xs ys same =
    subst (λ zs. drop start xs ≡ take n (take (length zs - start) (drop start zs)) ++ drop (start + n) xs) (sym same) (split_at_front n start xs)
