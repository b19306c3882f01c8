-- The bindings that a page has of its own.
use Rattle.std.proofs.Common.{◌≡◌, ◌==◌, ℕ, ◌+◌, ◌<◌, ◌≤◌, List, [], ◌∷◌, ◌++◌, Option, Some, None, Bool, true, false, refl, sym, ap, subst, ◌∙◌, arith, append_assoc, inl, inr}
use Rattle.std.specs.Prelude.{if◌then◌else◌, map, length, take, drop, get_or}
use Rattle.std.proofs.lemmas.List.{map-append, append-nil, take_more, drop_more, drop_all}
use Rattle.std.proofs.lemmas.Bool.Decides.{nat_tests}
use Rattle.script_value.specs.Val.{Val}
use Rattle.script_value.specs.Views.{meaning}
use Rattle.web_cells.specs.Shadows.{bound_to, binding, all_bound, last_shadow, AreAbove, Rise}
use Rattle.web_cells.specs.Own.{IsBoundSo, IsOwn, OwnGiveBack, OwnAreOne}
use Rattle.web_cells.specs.Views.{pair_of}
use Rattle.web_cells.specs.declared.shades.Shadow.{Shadow}
use Rattle.web_cells.proofs.Shadowed.{last_binds, rise}

abbrev Bindings : Type 0
Bindings = List (ℕ × Val)

-- ---- one list

pub are_one : OwnAreOne
are_one p [] a b i j = i ∙ sym j
are_one p (s ∷ ss) a b (inl i) (inl j) = are_one p ss a b i.1 j.1
are_one p (s ∷ ss) a b (inl i) (inr j) = absurd (j.0 i.0)
are_one p (s ∷ ss) a b (inr i) (inl j) = absurd (i.0 j.0)
are_one p (s ∷ ss) a b (inr i) (inr j) =
    i.1.1.0 ∙ ap (λ (l : Bindings). s ∷ l) (are_one p ss i.1.0 j.1.0 i.1.1.1 j.1.1.1) ∙ sym j.1.1.0

-- ---- bindings whose cells rise

-- a lower cell is not bound
pub above_none : (c : ℕ) (ss : Bindings) → AreAbove c ss → binding c ss ≡ None
above_none c [] h = refl
above_none c (s ∷ ss) h =
    let no : (s.0 == c) ≡ false = grind (arith, nat_tests, h.0) in rw no (above_none c ss h.1)

-- a cell that is bound is above each one below all
bound_above : (a c : ℕ) (v : Val) (ss : Bindings) → AreAbove a ss → binding c ss ≡ Some v → a < c
bound_above a c v [] h e = absurd cc
bound_above a c v (s ∷ ss) h e = by_cell (s.0 == c) refl (λ f. bound_above a c v ss h.1 f) e
  where
    by_cell : (t : Bool) → (s.0 == c) ≡ t → (binding c ss ≡ Some v → a < c) → (if t then Some s.1 else binding c ss) ≡ Some v → a < c
    by_cell true same later f = let is : s.0 ≡ c = grind (arith, nat_tests, same) in omega (arith, is, h.0)
    by_cell false other later f = later f

at_first : (s : ℕ × Val) (ss : Bindings) → binding s.0 (s ∷ ss) ≡ Some s.1
at_first s ss = let same : (s.0 == s.0) ≡ true = grind (arith, nat_tests) in rw same refl

-- the first cells of two lists with the same bindings
first_not_below : (x y : ℕ × Val) (ys : Bindings) → AreAbove y.0 ys → binding x.0 (y ∷ ys) ≡ Some x.1 → y.0 ≤ x.0
first_not_below x y ys h e = by_cell (y.0 == x.0) refl e
  where
    by_cell : (t : Bool) → (y.0 == x.0) ≡ t → (if t then Some y.1 else binding x.0 ys) ≡ Some x.1 → y.0 ≤ x.0
    by_cell true same f = let is : y.0 ≡ x.0 = grind (arith, nat_tests, same) in omega (arith, is)
    by_cell false other f = let less = bound_above y.0 x.0 x.1 ys h f in omega (arith, less)

some_same : (v w : Val) → Some v ≡ Some w → v ≡ w
some_same v w e = cc

-- after the same first binding
same_rest : (x y : ℕ × Val) (xs ys : Bindings) → x.0 ≡ y.0 → AreAbove x.0 xs → AreAbove y.0 ys
    → ((c : ℕ) → binding c (x ∷ xs) ≡ binding c (y ∷ ys)) → (c : ℕ) → binding c xs ≡ binding c ys
same_rest x y xs ys same hx hy e c = by_cell (x.0 == c) refl (e c)
  where
    by_cell : (t : Bool) → (x.0 == c) ≡ t → (if t then Some x.1 else binding c xs) ≡ (if y.0 == c then Some y.1 else binding c ys) → binding c xs ≡ binding c ys
    by_cell true is f =
        let at : x.0 ≡ c = grind (arith, nat_tests, is) in
        above_none c xs (subst (λ (k : ℕ). AreAbove k xs) at hx) ∙ sym (above_none c ys (subst (λ (k : ℕ). AreAbove k ys) (sym same ∙ at) hy))
    by_cell false other f =
        let no : (y.0 == c) ≡ false = ap (λ (k : ℕ). k == c) (sym same) ∙ other in rw no at f

-- the same bindings, the cells rising, are one list
pub same_bindings : (xs ys : Bindings) → Rise xs → Rise ys → ((c : ℕ) → binding c xs ≡ binding c ys) → xs ≡ ys
same_bindings [] [] hx hy e = refl
same_bindings [] (y ∷ ys) hx hy e = let f = e y.0 ∙ at_first y ys in absurd cc
same_bindings (x ∷ xs) [] hx hy e = let f = sym (e x.0) ∙ at_first x xs in absurd cc
same_bindings (x ∷ xs) (y ∷ ys) hx hy e =
    let low = first_not_below x y ys hy.0 (sym (e x.0) ∙ at_first x xs) in
    let high = first_not_below y x xs hx.0 (e y.0 ∙ at_first y ys) in
    let cell : x.0 ≡ y.0 = omega (arith, low, high) in
    let value : x.1 ≡ y.1 =
    some_same x.1 y.1 (sym (at_first x xs) ∙ e x.0 ∙ ap (λ (c : ℕ). binding c (y ∷ ys)) cell ∙ at_first y ys) in
    let more = same_bindings xs ys hx.1 hy.1 (same_rest x y xs ys cell hx.0 hy.0 e) in
    λ i. (cell i, value i) ∷ more i

-- ---- back

-- a cell below all of a page's is none of its own
untouched : (p ss own : Bindings) (c : ℕ) (found : Option Val) → AreAbove c ss → IsOwn p ss own → last_shadow c own found ≡ found
untouched p [] own c found h i = rw i refl
untouched p (s ∷ ss) own c found h (inl i) = untouched p ss own c found h.1 i.1
untouched p (s ∷ ss) own c found h (inr i) =
    let no : (s.0 == c) ≡ false = grind (arith, nat_tests, h.0) in
    ap (λ (l : Bindings). last_shadow c l found) i.1.1.0
    ∙ ap (λ (t : Bool). last_shadow c i.1.0 (if t then Some s.1 else found)) no
    ∙ untouched p ss i.1.0 c found h.1 i.1.1.1

-- the first of two values that may be none, or else the second
abbrev pub or_that : Option Val → Option Val → Option Val
or_that None found = found
or_that (Some v) found = Some v

-- a page's own bindings, and after them its parent's
found_with : (p ss own : Bindings) (c : ℕ) → Rise ss → IsOwn p ss own → last_shadow c own (binding c p) ≡ or_that (binding c ss) (binding c p)
found_with p [] own c h i = rw i refl
found_with p (s ∷ ss) own c h (inl i) = by_cell (s.0 == c) refl (found_with p ss own c h.1 i.1)
  where
    by_cell : (t : Bool) → (s.0 == c) ≡ t → last_shadow c own (binding c p) ≡ or_that (binding c ss) (binding c p)
        → last_shadow c own (binding c p) ≡ or_that (if t then Some s.1 else binding c ss) (binding c p)
    by_cell true same later =
        let is : s.0 ≡ c = grind (arith, nat_tests, same) in
        untouched p ss own c (binding c p) (subst (λ (k : ℕ). AreAbove k ss) is h.0) i.1 ∙ ap (λ (k : ℕ). binding k p) (sym is) ∙ i.0
    by_cell false other later = later
found_with p (s ∷ ss) own c h (inr i) =
    ap (λ (l : Bindings). last_shadow c l (binding c p)) i.1.1.0 ∙ by_cell (s.0 == c) refl (found_with p ss i.1.0 c h.1 i.1.1.1)
  where
    by_cell : (t : Bool) → (s.0 == c) ≡ t → last_shadow c i.1.0 (binding c p) ≡ or_that (binding c ss) (binding c p)
        → last_shadow c i.1.0 (if t then Some s.1 else binding c p) ≡ or_that (if t then Some s.1 else binding c ss) (binding c p)
    by_cell true same later =
        let is : s.0 ≡ c = grind (arith, nat_tests, same) in
        untouched p ss i.1.0 c (Some s.1) (subst (λ (k : ℕ). AreAbove k ss) is h.0) i.1.1.1
    by_cell false other later = later

covered : (o found : Option Val) → (o ≡ None → found ≡ None) → or_that o found ≡ o
covered None found h = h refl
covered (Some v) found h = refl

pub all_rise : (made ss : Bindings) → Rise ss → Rise (all_bound made ss)
all_rise [] ss h = h
all_rise (s ∷ made) ss h = all_rise made (bound_to s.0 s.1 ss) (rise s.0 s.1 ss h)

pub give_back : OwnGiveBack
give_back p ss own hp hs all i =
    same_bindings (all_bound own p) ss (all_rise own p hp) hs
    (λ c. last_binds c own p ∙ found_with p ss own c hs i ∙ covered (binding c ss) (binding c p) (all c))

-- ---- as a loop binds them

one_bound : (made : Bindings) (s : ℕ × Val) (ss : Bindings) → all_bound (made ++ s ∷ []) ss ≡ bound_to s.0 s.1 (all_bound made ss)
one_bound [] s ss = refl
one_bound (t ∷ made) s ss = one_bound made s (bound_to t.0 t.1 ss)

pub one_more : (made : List Shadow) (s : Shadow) (ss : Bindings)
    → all_bound (map pair_of (made ++ s ∷ [])) ss ≡ bound_to s.cell (meaning s.value) (all_bound (map pair_of made) ss)
one_more made s ss = ap (λ (l : Bindings). all_bound l ss) (map-append pair_of made (s ∷ [])) ∙ one_bound (map pair_of made) (pair_of s) ss

pub with_one : (items : List Shadow) (i : ℕ) (x : Shadow) (ss : Bindings) → i < length items → x ≡ get_or items i x
    → all_bound (map pair_of (take (i + 1) items)) ss ≡ bound_to x.cell (meaning x.value) (all_bound (map pair_of (take i items)) ss)
with_one items i x ss h is =
    ap (λ (l : List Shadow). all_bound (map pair_of l) ss) (take_more items i x h ∙ ap (λ (y : Shadow). take i items ++ y ∷ []) (sym is))
    ∙ one_more (take i items) x ss

pub dropped : (items : List Shadow) (i : ℕ) (x : Shadow) → i < length items → x ≡ get_or items i x
    → map pair_of (drop i items) ≡ pair_of x ∷ map pair_of (drop (i + 1) items)
dropped items i x h is = ap (λ (l : List Shadow). map pair_of l) (drop_more items i x h ∙ ap (λ (y : Shadow). y ∷ drop (i + 1) items) (sym is))

-- ---- as a loop finds them

-- one that the parent has too is passed over
pub passed : (p whole : Bindings) (items own new : List Shadow) (i : ℕ) (x : Shadow) → i < length items → x ≡ get_or items i x → IsBoundSo p (pair_of x)
    → new ≡ own
    → ((rest : Bindings) → IsOwn p (map pair_of (drop i items)) rest → IsOwn p whole (map pair_of own ++ rest))
    → (rest : Bindings) → IsOwn p (map pair_of (drop (i + 1) items)) rest → IsOwn p whole (map pair_of new ++ rest)
passed p whole items own new i x lt is same as_it_was h rest j =
    subst (λ (l : List Shadow). IsOwn p whole (map pair_of l ++ rest)) (sym as_it_was)
    (h rest (subst (λ (l : Bindings). IsOwn p l rest) (sym (dropped items i x lt is)) (inl (same, j))))

-- another one is kept
pub kept : (p whole : Bindings) (items own new : List Shadow) (i : ℕ) (x y : Shadow) → i < length items → x ≡ get_or items i x → ¬ (IsBoundSo p (pair_of x))
    → y ≡ x → new ≡ own ++ y ∷ []
    → ((rest : Bindings) → IsOwn p (map pair_of (drop i items)) rest → IsOwn p whole (map pair_of own ++ rest))
    → (rest : Bindings) → IsOwn p (map pair_of (drop (i + 1) items)) rest → IsOwn p whole (map pair_of new ++ rest)
kept p whole items own new i x y lt is other copy pushed h rest j =
    let found : IsOwn p (map pair_of (drop i items)) (pair_of x ∷ rest) =
    subst (λ (l : Bindings). IsOwn p l (pair_of x ∷ rest)) (sym (dropped items i x lt is)) (inr (other, (rest, (refl, j)))) in
    let shown : map pair_of new ++ rest ≡ map pair_of own ++ pair_of x ∷ rest =
    ap (λ (l : List Shadow). map pair_of l ++ rest) (pushed ∙ ap (λ (z : Shadow). own ++ z ∷ []) copy)
    ∙ ap (λ (l : Bindings). l ++ rest) (map-append pair_of own (x ∷ []))
    ∙ append_assoc (map pair_of own) (pair_of x ∷ []) rest in
    subst (λ (l : Bindings). IsOwn p whole l) (sym shown) (h (pair_of x ∷ rest) found)

-- and none is left
pub all_found : (p whole : Bindings) (items own : List Shadow) (i : ℕ) → length items ≤ i → map pair_of items ≡ whole
    → ((rest : Bindings) → IsOwn p (map pair_of (drop i items)) rest → IsOwn p (map pair_of items) (map pair_of own ++ rest)) → IsOwn p whole (map pair_of own)
all_found p whole items own i le same h =
    let none : map pair_of (drop i items) ≡ [] = ap (λ (l : List Shadow). map pair_of l) (drop_all i items le) in
    let found : IsOwn p (map pair_of items) (map pair_of own ++ []) = h [] (subst (λ (l : Bindings). IsOwn p l []) (sym none) refl) in
    subst (λ (l : Bindings). IsOwn p l (map pair_of own)) same (subst (λ (l : Bindings). IsOwn p (map pair_of items) l) (append-nil (map pair_of own)) found)
