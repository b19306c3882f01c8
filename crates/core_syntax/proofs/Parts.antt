-- The parts of data.
use Rattle.std.proofs.Common.{◌≡◌, ℕ, zero, suc, ◌-◌, ◌<◌, ◌≤◌, List, [], ◌∷◌, length, map, get_or, Some, take, drop, refl, sym, ap, arith}
use Rattle.std.proofs.lemmas.List.{take_all}
use Rattle.std.specs.Prelude.{codes, slice_get}
use Rattle.script_value.specs.Val.{vals_of, weight, weight_all}
use Rattle.script_value.specs.Views.{meaning}
use Rattle.script_value.specs.declared.value.Value.{Value}
use Rattle.core_syntax.specs.Shapes.{count_of, is_headed, ends_in_else}

-- an item of a list weighs no more than all of them
pub item_weight : (xs : List Value) (i : ℕ) (d : Value) → i < length xs → weight (meaning (get_or xs i d)) ≤ weight_all (vals_of (map meaning xs))
item_weight [] i d h = absurd (omega arith)
item_weight (x ∷ xs) zero d h = omega arith
item_weight (x ∷ xs) (suc i) d h = omega (arith, item_weight xs i d (omega arith))

pub count_of_items : (xs : List Value) → count_of (vals_of (map meaning xs)) ≡ length xs
count_of_items [] = refl
count_of_items (x ∷ xs) = omega (arith, count_of_items xs)

else_at : (xs : List Value) (x : Value) (n : ℕ) → suc n ≡ length xs → Some x ≡ slice_get xs n
    → is_headed (codes "else") (meaning x) ≡ ends_in_else (vals_of (map meaning xs))
else_at [] x n l e = absurd (omega arith)
else_at (y ∷ []) x zero l e = let f : x ≡ y = cc in rw f refl
else_at (y ∷ []) x (suc n) l e = absurd (omega arith)
else_at (y ∷ (z ∷ xs)) x zero l e = absurd (omega arith)
else_at (y ∷ (z ∷ xs)) x (suc n) l e = else_at (z ∷ xs) x n (omega arith) e

pub else_last : (xs : List Value) (x : Value) → Some x ≡ slice_get xs (length xs - 1)
    → is_headed (codes "else") (meaning x) ≡ ends_in_else (vals_of (map meaning xs))
else_last [] x e = absurd (let no : ⊥ = cc in no)
else_last (y ∷ xs) x e = else_at (y ∷ xs) x (length (y ∷ xs) - 1) (omega arith) e

pub split_off : (xs : List Value) (d : Value) → d ≡ get_or xs 0 d → 1 ≤ length xs → xs ≡ d ∷ take (length xs - 1) (drop 1 xs)
split_off [] d e h = absurd (omega arith)
split_off (x ∷ xs) d e h =
    let l : length (x ∷ xs) - 1 ≡ length xs = omega arith in
    rw (l, e) (ap (λ ys. x ∷ ys) (sym (take_all (length xs) xs (omega arith))))

-- a list of which the items are given
pub exactly_two : (xs : List Value) (a b : Value) → a ≡ get_or xs 0 a → b ≡ get_or xs 1 b → 2 ≤ length xs → length xs < 3 → xs ≡ a ∷ (b ∷ [])
exactly_two [] a b e f l m = absurd (omega arith)
exactly_two (x ∷ []) a b e f l m = absurd (omega arith)
exactly_two (x ∷ (y ∷ [])) a b e f l m = rw (e, f) refl
exactly_two (x ∷ (y ∷ (z ∷ xs))) a b e f l m = absurd (omega arith)

pub map_twice : {A B C : Type 0} (f : B → C) (g : A → B) (xs : List A) → map f (map g xs) ≡ map (λ x. f (g x)) xs
map_twice f g [] = refl
map_twice f g (x ∷ xs) = ap (λ ys. f (g x) ∷ ys) (map_twice f g xs)
