-- Fronts that two lists share.
use Rattle.std.proofs.Common.{◌≡◌, ℕ, zero, suc, ◌+◌, ◌<◌, ◌≤◌, List, [], ◌∷◌, ◌++◌, map, length, take, drop, get_or, Some, nat_eq, refl, sym, ap, subst, ◌∙◌, arith, add-zero, add-one}
use Rattle.std.specs.Prelude.{IsTrue, slice_get}
use Rattle.std.proofs.lemmas.Bool.Decides.{nat_tests}
use Rattle.std.proofs.lemmas.List.{drop_more, drop_all}
use Rattle.frame_codec.specs.Deltas.{Part, Shares}

-- the second list is the shared front and its rest
pub whole : {A : Type 0} (xs ys : List A) (n : ℕ) (rest : List A) → Shares xs ys n rest → ys ≡ take n xs ++ rest
whole xs ys zero rest h = h.0
whole [] ys (suc n) rest h = absurd h
whole (x ∷ xs) [] (suc n) rest h = absurd h
whole (x ∷ xs) (y ∷ ys) (suc n) rest h = let more = whole xs ys n rest h.1 in λ i. sym h.0 i ∷ more i

-- it is no longer than the second list
pub within : {A : Type 0} (xs ys : List A) (n : ℕ) (rest : List A) → Shares xs ys n rest → n + length rest ≡ length ys
within xs ys zero rest h = let same = ap (λ (l : List _). length l) h.0 in omega (arith, same)
within [] ys (suc n) rest h = absurd h
within (x ∷ xs) [] (suc n) rest h = absurd h
within (x ∷ xs) (y ∷ ys) (suc n) rest h = let more = within xs ys n rest h.1 in omega (arith, more)

-- there is one longest front
pub one : {A : Type 0} (xs ys : List A) (n m : ℕ) (r q : List A) → Shares xs ys n r → Shares xs ys m q → (n ≡ m) × (r ≡ q)
one xs ys zero zero r q h k = (refl, sym h.0 ∙ k.0)
one [] ys zero (suc m) r q h k = absurd k
one (x ∷ xs) [] zero (suc m) r q h k = absurd k
one (x ∷ xs) (y ∷ ys) zero (suc m) r q h k = absurd (h.1 k.0)
one [] ys (suc n) m r q h k = absurd h
one (x ∷ xs) [] (suc n) m r q h k = absurd h
one (x ∷ xs) (y ∷ ys) (suc n) zero r q h k = absurd (k.1 h.0)
one (x ∷ xs) (y ∷ ys) (suc n) (suc m) r q h k =
    let more = one xs ys n m r q h.1 k.1 in (ap (λ (i : ℕ). suc i) more.0, more.1)

-- ---- as a loop finds it

-- so far the fronts are the same
abbrev pub SoFar : {A : Type 0} → (parent values : List A) → (theirs ours : List A) → (i : ℕ) → Type 0
SoFar {A} parent values theirs ours i = (m : ℕ) (rest : List A) → Shares theirs ours m rest → Shares parent values (i + m) rest

-- they end here
pub ends_here : {A : Type 0} (parent values theirs ours : List A) (i : ℕ) → SoFar parent values theirs ours i → Part theirs ours → Shares parent values i ours
ends_here parent values theirs ours i h part = subst (λ (n : ℕ). Shares parent values n ours) (add-zero i) (h 0 ours (refl, part))

one_more : {A : Type 0} (parent values xs ys : List A) (x y : A) (i : ℕ) → x ≡ y → SoFar parent values (x ∷ xs) (y ∷ ys) i → SoFar parent values xs ys (i + 1)
one_more parent values xs ys x y i same h m rest s =
    subst (λ (n : ℕ). Shares parent values n rest) (omega arith) (h (suc m) rest (same, s))

-- what is left after the i-th, as it is seen
left_behind : {X A : Type 0} (view : X → A) (items : List X) (i : ℕ) (x : X) → i < length items → x ≡ get_or items i x
    → map view (drop i items) ≡ view x ∷ map view (drop (i + 1) items)
left_behind view items i x lt is = ap (λ (l : List _). map view l) (drop_more items i x lt ∙ ap (λ (y : _). y ∷ drop (i + 1) items) (sym is))

at_place : {A : Type 0} (xs : List A) (i : ℕ) (x : A) → slice_get xs i ≡ Some x → drop i xs ≡ x ∷ drop (suc i) xs
at_place [] i x e = absurd cc
at_place (y ∷ xs) zero x e = let same : y ≡ x = cc in ap (λ (z : _). z ∷ xs) same
at_place (y ∷ xs) (suc i) x e = at_place xs i x e

part_nil : {A : Type 0} (xs : List A) → Part xs []
part_nil [] = tt
part_nil (x ∷ xs) = tt

part_at : {A : Type 0} (xs : List A) (i : ℕ) (x : A) (rest : List A) → ¬ (slice_get xs i ≡ Some x) → Part (drop i xs) (x ∷ rest)
part_at [] zero x rest other = tt
part_at [] (suc i) x rest other = tt
part_at (y ∷ xs) zero x rest other = λ e. other (ap (λ (z : _). Some z) e)
part_at (y ∷ xs) (suc i) x rest other = part_at xs i x rest other

-- the next two are the same
pub goes_on : {X A : Type 0} (view : X → A) (parent : List A) (items : List X) (y : X) (i : ℕ) → i < length items → y ≡ get_or items i y → slice_get parent i ≡ Some (view y)
    → SoFar parent (map view items) (drop i parent) (map view (drop i items)) i → SoFar parent (map view items) (drop (i + 1) parent) (map view (drop (i + 1) items)) (i + 1)
goes_on view parent items y i lt is same h =
    let theirs : drop i parent ≡ view y ∷ drop (i + 1) parent = rw add-one (at_place parent i (view y) same) in
    let both : SoFar parent (map view items) (view y ∷ drop (i + 1) parent) (view y ∷ map view (drop (i + 1) items)) i =
    subst (λ (xs : List _). SoFar parent (map view items) xs (view y ∷ map view (drop (i + 1) items)) i) theirs
    (subst (λ (ys : List _). SoFar parent (map view items) (drop i parent) ys i) (left_behind view items i y lt is) h) in
    one_more parent (map view items) (drop (i + 1) parent) (map view (drop (i + 1) items)) (view y) (view y) i refl both

-- the next two differ
pub parts_here : {X A : Type 0} (view : X → A) (parent : List A) (items : List X) (y : X) (i : ℕ) → i < length items → y ≡ get_or items i y → ¬ (slice_get parent i ≡ Some (view y))
    → SoFar parent (map view items) (drop i parent) (map view (drop i items)) i → Shares parent (map view items) i (map view (drop i items))
parts_here view parent items y i lt is other h =
    ends_here parent (map view items) (drop i parent) (map view (drop i items)) i h
    (subst (λ (ys : List _). Part (drop i parent) ys) (sym (left_behind view items i y lt is)) (part_at parent i (view y) (map view (drop (i + 1) items)) other))

-- all of the second list is shared
pub ends_last : {X A : Type 0} (view : X → A) (parent : List A) (items : List X) (i : ℕ) → length items ≤ i
    → SoFar parent (map view items) (drop i parent) (map view (drop i items)) i → Shares parent (map view items) i (map view (drop i items))
ends_last view parent items i le h =
    ends_here parent (map view items) (drop i parent) (map view (drop i items)) i h
    (subst (λ (ys : List _). Part (drop i parent) ys) (sym (ap (λ (l : List _). map view l) (drop_all i items le))) (part_nil (drop i parent)))

-- ---- lists that share all

all_same : {A : Type 0} (xs ys : List A) (n : ℕ) (rest : List A) → length xs ≡ length ys → Shares xs ys n rest → n ≡ length ys → xs ≡ ys
all_same [] [] n rest e h k = refl
all_same [] (y ∷ ys) n rest e h k = absurd (omega (arith, e))
all_same (x ∷ xs) [] n rest e h k = absurd (omega (arith, e))
all_same (x ∷ xs) (y ∷ ys) zero rest e h k = absurd (omega (arith, k))
all_same (x ∷ xs) (y ∷ ys) (suc n) rest e h k =
    let more = all_same xs ys n rest (omega (arith, e)) h.1 (omega (arith, k)) in λ i. h.0 i ∷ more i

same_all : {A : Type 0} (xs : List A) (n : ℕ) (rest : List A) → Shares xs xs n rest → n ≡ length xs
same_all [] zero rest h = refl
same_all (x ∷ xs) zero rest h = absurd (h.1 refl)
same_all [] (suc n) rest h = absurd h
same_all (x ∷ xs) (suc n) rest h = ap (λ (i : ℕ). suc i) (same_all xs n rest h.1)

pub same_by : {A : Type 0} (v w xs ys : List A) (n m : ℕ) (rest : List A) → xs ≡ v → ys ≡ w → length v ≡ length w → m ≡ length w → Shares xs ys n rest
    → (IsTrue (nat_eq n m) → v ≡ w) × (v ≡ w → IsTrue (nat_eq n m))
same_by {A} v w xs ys n m rest e f len count h =
    let s : Shares v w n rest = subst (λ (l : List A). Shares v l n rest) f (subst (λ (l : List A). Shares l ys n rest) e h) in (
      λ t. let k : n ≡ m = grind (arith, nat_tests, t) in all_same v w n rest len s (k ∙ count),
      λ same. let k : n ≡ m = same_all w n rest (subst (λ (l : List A). Shares l w n rest) same s) ∙ sym count in grind (arith, nat_tests, k),
    )
