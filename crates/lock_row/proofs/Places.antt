-- A pass as a list of spots, and one of them changed.
use Rattle.std.proofs.Common.{◌≡◌, ℕ, zero, suc, ◌<◌, List, [], ◌∷◌, ◌++◌, map, length, Some, slice_get, set, get_or, refl, ap, sym, ◌∙◌, subst, arith}
use Rattle.std.proofs.lemmas.Option.{slice_get_within}
use Rattle.atomic_table.specs.Seated.{TableId}
use Rattle.shelf_lock.specs.declared.view.View.{View}
use Rattle.lock_row.specs.Spots.{Spot, spot, Home, home, home_of, At}

pub map_length : {A B : Type 0} (f : A → B) (xs : List A) → length (map f xs) ≡ length xs
map_length f [] = refl
map_length f (x ∷ xs) = ap suc (map_length f xs)

pub one_of : {A : Type 0} {a b : A} → Some a ≡ Some b → a ≡ b
one_of e = cc e

-- a pass has seats, of which t is the table and v the view
module _ {A O E : Type 0} (t : A → TableId) (v : A → View O E) where
  abbrev pub spots : List A → List (Spot O E)
  spots xs = map (λ q. spot (t q) (v q)) xs

abbrev pub homes : {O E : Type 0} → List (Spot O E) → List (Home O)
homes {O} {E} pass = map (λ (s : Spot O E). home_of s) pass

-- a row has locks, of which h is the home
module _ {A B O E : Type 0} (t : A → TableId) (v : A → View O E) (h : B → Home O) where
  same_homes : (xs : List A) (ys : List B) (k : ℕ) (q : A) (l : B) → homes (spots t v xs) ≡ map h ys → k < length ys → q ≡ get_or xs k q → l ≡ get_or ys k l
      → (home (t q) (v q).opening ≡ h l) × (k < length xs)
  same_homes [] [] k q l e lt q_is l_is = absurd (omega arith)
  same_homes [] (y ∷ ys) k q l e lt q_is l_is = absurd (cc e)
  same_homes (x ∷ xs) [] k q l e lt q_is l_is = absurd (omega arith)
  same_homes (x ∷ xs) (y ∷ ys) zero q l e lt q_is l_is =
      (let first : home (t x) (v x).opening ≡ h y = cc e in ap (λ (z : A). home (t z) (v z).opening) q_is ∙ (first ∙ sym (ap h l_is)), omega arith)
  same_homes (x ∷ xs) (y ∷ ys) (suc k) q l e lt q_is l_is =
      let r = same_homes xs ys k q l (cc e) (omega (arith, lt)) q_is l_is in (r.0, (let within = r.1 in omega arith))

  -- the seat and the lock at one place
  pub own_at : (xs : List A) (ys : List B) (pass : List (Spot O E)) (row : List (Home O)) (k : ℕ) (q : A) (l : B) → spots t v xs ≡ pass → map h ys ≡ row → homes pass ≡ row → k < length row
      → q ≡ get_or xs k q → l ≡ get_or ys k l → (home (t q) (v q).opening ≡ h l) × (k < length xs)
  own_at xs ys pass row k q l pass_is row_is of lt q_is l_is =
      same_homes xs ys k q l (ap homes pass_is ∙ (of ∙ sym row_is)) (omega (arith, ap length row_is, map_length h ys, lt)) q_is l_is

module _ {A O E : Type 0} (t : A → TableId) (v : A → View O E) where
  own_kept : (xs : List A) (k : ℕ) (q r : A) → q ≡ get_or xs k q → home (t r) (v r).opening ≡ home (t q) (v q).opening → homes (spots t v (set xs k r)) ≡ homes (spots t v xs)
  own_kept [] k q r q_is same = refl
  own_kept (x ∷ xs) zero q r q_is same = ap (λ (z : Home O). z ∷ homes (spots t v xs)) (same ∙ ap (λ (z : A). home (t z) (v z).opening) q_is)
  own_kept (x ∷ xs) (suc k) q r q_is same = ap (λ l. home (t x) (v x).opening ∷ l) (own_kept xs k q r q_is same)

  pub spot_at : (xs : List A) (k : ℕ) (q : A) → k < length xs → q ≡ get_or xs k q → slice_get (spots t v xs) k ≡ Some (spot (t q) (v q))
  spot_at [] k q lt is = absurd (omega arith)
  spot_at (x ∷ xs) zero q lt is = ap (λ (z : A). Some (spot (t z) (v z))) (sym is)
  spot_at (x ∷ xs) (suc k) q lt is = spot_at xs k q (omega (arith, lt)) is

  -- the same of a pass whose seats these are
  pub spot_of : (xs : List A) (pass : List (Spot O E)) (k : ℕ) (q : A) → spots t v xs ≡ pass → k < length xs → q ≡ get_or xs k q → slice_get pass k ≡ Some (spot (t q) (v q))
  spot_of xs pass k q pass_is lt is = ap (λ p. slice_get p k) (sym pass_is) ∙ spot_at xs k q lt is

  spot_set : (xs : List A) (k : ℕ) (q r : A) → t r ≡ t q → spots t v (set xs k r) ≡ set (spots t v xs) k (spot (t q) (v r))
  spot_set [] k q r same = refl
  spot_set (x ∷ xs) zero q r same = ap (λ (z : TableId). spot z (v r) ∷ spots t v xs) same
  spot_set (x ∷ xs) (suc k) q r same = ap (λ l. spot (t x) (v x) ∷ l) (spot_set xs k q r same)

  pub kept_own : (xs : List A) (pass : List (Spot O E)) (row : List (Home O)) (k : ℕ) (q r : A) → spots t v xs ≡ pass → homes pass ≡ row → q ≡ get_or xs k q → t r ≡ t q → (v r).opening ≡ (v q).opening
      → homes (spots t v (set xs k r)) ≡ row
  kept_own xs pass row k q r pass_is of q_is same opening = own_kept xs k q r q_is (λ i. home (same i) (opening i)) ∙ (ap homes pass_is ∙ of)

  pub goes_at : (xs : List A) (pass : List (Spot O E)) (k : ℕ) (q r : A) (R : View O E → View O E → Type 0) → spots t v xs ≡ pass → k < length xs → q ≡ get_or xs k q → t r ≡ t q → R (v q) (v r)
      → At k R pass (spots t v (set xs k r))
  goes_at xs pass k q r R pass_is lt is same rel =
      subst (λ p. At k R p (spots t v (set xs k r))) pass_is (spot (t q) (v q), v r, spot_at xs k q lt is, spot_set xs k q r same, rel)

  -- a seat that stays as it is
  pub spot_same : (xs : List A) (k : ℕ) (q r : A) → q ≡ get_or xs k q → t r ≡ t q → v r ≡ v q → spots t v (set xs k r) ≡ spots t v xs
  spot_same [] k q r is same known = refl
  spot_same (x ∷ xs) zero q r is same known = λ i. spot ((same ∙ ap t is) i) ((known ∙ ap v is) i) ∷ spots t v xs
  spot_same (x ∷ xs) (suc k) q r is same known = ap (λ l. spot (t x) (v x) ∷ l) (spot_same xs k q r is same known)

-- an element of a mapped list
pub map_get : {A B : Type 0} (f : A → B) (xs : List A) (k : ℕ) (y : B) → slice_get (map f xs) k ≡ Some y → (x : A) × (slice_get xs k ≡ Some x) × (f x ≡ y)
map_get f [] k y e = absurd (cc e)
map_get f (x ∷ xs) zero y e = (x, refl, one_of e)
map_get f (x ∷ xs) (suc k) y e = map_get f xs k y e

pub get_map : {A B : Type 0} (f : A → B) (xs : List A) (k : ℕ) (x : A) → slice_get xs k ≡ Some x → slice_get (map f xs) k ≡ Some (f x)
get_map f [] k x e = absurd (cc e)
get_map f (y ∷ ys) zero x e = ap (λ z. Some (f z)) (one_of e)
get_map f (y ∷ ys) (suc k) x e = get_map f ys k x e

module _ {O E : Type 0} where
  -- where a pass and another are of the same locks
  pub same_at : (p q : List (Spot O E)) (k : ℕ) (n : Spot O E) → homes p ≡ homes q → slice_get q k ≡ Some n → (a : Spot O E) × (slice_get p k ≡ Some a) × (home_of n ≡ home_of a)
  same_at [] [] k n e at = absurd (cc at)
  same_at [] (y ∷ ys) k n e at = absurd (cc e)
  same_at (x ∷ xs) [] k n e at = absurd (cc e)
  same_at (x ∷ xs) (y ∷ ys) zero n e at =
      (x, refl, (let first : home_of x ≡ home_of y = cc e in let is : y ≡ n = one_of at in sym (ap (λ (s : Spot O E). home_of s) is) ∙ sym first))
  same_at (x ∷ xs) (y ∷ ys) (suc k) n e at = same_at xs ys k n (cc e) at

pub map_snoc : {A B : Type 0} (f : A → B) (xs : List A) (x : A) → map f (xs ++ x ∷ []) ≡ map f xs ++ f x ∷ []
map_snoc f [] x = refl
map_snoc f (y ∷ ys) x = ap (λ l. f y ∷ l) (map_snoc f ys x)

pub get_there : {A : Type 0} (xs : List A) (k : ℕ) → k < length xs → (x : A) × (slice_get xs k ≡ Some x)
get_there [] k lt = absurd (omega arith)
get_there (x ∷ xs) zero lt = (x, refl)
get_there (x ∷ xs) (suc k) lt = get_there xs k (omega (arith, lt))

pub set_there : {A : Type 0} (xs : List A) (k : ℕ) (x : A) → k < length xs → slice_get (set xs k x) k ≡ Some x
set_there [] k x lt = absurd (omega arith)
set_there (y ∷ ys) zero x lt = refl
set_there (y ∷ ys) (suc k) x lt = set_there ys k x (omega (arith, lt))

pub there : {O E : Type 0} (k : ℕ) (R : View O E → View O E → Type 0) (old new : List (Spot O E)) (at : At k R old new) → slice_get new k ≡ Some (spot at.0.table at.1)
there k R old new at = ap (λ l. slice_get l k) at.3 ∙ set_there old k (spot at.0.table at.1) (slice_get_within old k at.0 at.2)

pub map_map : {A B C : Type 0} (f : A → B) (h : B → C) (xs : List A) → map h (map f xs) ≡ map (λ x. h (f x)) xs
map_map f h [] = refl
map_map f h (x ∷ xs) = ap (λ l. h (f x) ∷ l) (map_map f h xs)

abbrev pub tables : {O E : Type 0} → List (Spot O E) → List TableId
tables {O} {E} pass = map (λ (s : Spot O E). s.table) pass

abbrev pub tables_in : {O : Type 0} → List (Home O) → List TableId
tables_in {O} row = map (λ (h : Home O). h.table) row

module _ {O E : Type 0} where
  pub tables_of : (p : List (Spot O E)) (row : List (Home O)) → homes p ≡ row → tables p ≡ tables_in row
  tables_of p row is = sym (map_map (λ (s : Spot O E). home_of s) (λ (h : Home O). h.table) p) ∙ ap tables_in is

  pub tables_each : (p q : List (Spot O E)) → length q ≡ length p → ((k : ℕ) (n : Spot O E) → slice_get q k ≡ Some n → (a : Spot O E) × (slice_get p k ≡ Some a) × (n.table ≡ a.table)) → tables q ≡ tables p
  tables_each [] [] len each = refl
  tables_each [] (y ∷ ys) len each = absurd (cc len)
  tables_each (x ∷ xs) [] len each = absurd (cc len)
  tables_each (x ∷ xs) (y ∷ ys) len each =
      let first = each 0 y refl in
      let same : x ≡ first.0 = one_of first.1 in
      let rest = tables_each xs ys (omega arith) (λ k n e. each (suc k) n e) in
      λ i. (first.2 ∙ ap (λ (s : Spot O E). s.table) (sym same)) i ∷ rest i

  -- where a pass and a note have the same tables
  pub same_table : (p q : List (Spot O E)) (k : ℕ) (n : Spot O E) → tables p ≡ tables q → slice_get q k ≡ Some n → (a : Spot O E) × (slice_get p k ≡ Some a) × (n.table ≡ a.table)
  same_table [] [] k n e at = absurd (cc at)
  same_table [] (y ∷ ys) k n e at = absurd (cc e)
  same_table (x ∷ xs) [] k n e at = absurd (cc e)
  same_table (x ∷ xs) (y ∷ ys) zero n e at =
      (x, refl, (let first : x.table ≡ y.table = cc e in let is : y ≡ n = one_of at in sym (ap (λ (s : Spot O E). s.table) is) ∙ sym first))
  same_table (x ∷ xs) (y ∷ ys) (suc k) n e at = same_table xs ys k n (cc e) at
