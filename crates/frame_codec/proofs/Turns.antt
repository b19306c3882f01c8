-- Reading one after the other, as a loop does.
use Rattle.std.proofs.Common.{◌≡◌, ℕ, ◌+◌, ◌-◌, ◌<◌, List, [], ◌∷◌, ◌++◌, Some, map, ap, ◌∙◌}
use Rattle.std.proofs.lemmas.List.{map-append}
use Rattle.value_bytes.specs.Reading.{Reader, read_several}
use Rattle.value_bytes.proofs.Turns.{with_front, one_more}

-- one more is read and kept
pub one_kept : {A X : Type 0} (view : X → A) (read : Reader A) (n i : ℕ) (xs ys : List X) (x : X) (bytes rest : List ℕ)
    → ys ≡ xs ++ x ∷ [] → i < n → read bytes ≡ Some (view x, rest)
    → with_front (map view ys) (read_several read (n - (i + 1)) rest) ≡ with_front (map view xs) (read_several read (n - i) bytes)
one_kept view read n i xs ys x bytes rest kept h e =
    ap (λ (front : List _). with_front front (read_several read (n - (i + 1)) rest)) (ap (map view) kept ∙ map-append view xs (x ∷ []))
    ∙ one_more read n i (map view xs) bytes (view x) rest h e
