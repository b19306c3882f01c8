-- Values on their way behind locks, and seats on their way to callers.
use Rattle.std.proofs.Common.{◌≡◌, ℕ, zero, suc, ◌+◌, ◌-◌, ◌<◌, ◌≤◌, List, [], ◌∷◌, ◌++◌, eqb, Bool, true, false, ltb, if◌then◌else◌, Some, slice_get, refl, ap, sym, ◌∙◌, subst, length, map, reverse, arith, eq-eqb}
use Rattle.std.proofs.lemmas.List.{reverse-append, length-reverse}
use Rattle.std.proofs.lemmas.Option.{slice_get_within}
use Rattle.std.proofs.lemmas.Bool.Decides.{nat_tests}
use Rattle.std.specs.List.{AllZip}
use mathlib.Core.List.{IsPrefix}
use Rattle.shelf_lock.specs.declared.kept.Kept.{Ghosts}
use Rattle.shelf_lock.specs.Order.{made_by, Told, MadeBelow}
use Rattle.shelf_lock.proofs.Prefixes.{snoc_each}
use Rattle.lock_row.specs.Spots.{Spot, Home, home_of}
use Rattle.lock_row.specs.Rows.{IsFresh, ComesBack, IsNewFor, IsNewPass, AreSpare, ZipsAll}
use Rattle.lock_row.specs.Locking.{Held, Seats, IsHeld, AreDealt, Extends, first_value, home_in}
use Rattle.lock_row.proofs.Places.{one_of, map_snoc, map_get, get_there}

pub reverse_cons : {A : Type 0} (x : A) (xs : List A) → reverse (x ∷ xs) ≡ reverse xs ++ x ∷ []
reverse_cons x xs = reverse-append (x ∷ []) xs

pub reverse_snoc : {A : Type 0} (xs : List A) (x : A) → reverse (xs ++ x ∷ []) ≡ x ∷ reverse xs
reverse_snoc xs x = reverse-append xs (x ∷ [])

-- the same of what a list is mapped to
pub turned_cons : {A B : Type 0} (f : A → B) (x : A) (xs : List A) → reverse (map f (x ∷ xs)) ≡ reverse (map f xs) ++ f x ∷ []
turned_cons f x xs = reverse_cons (f x) (map f xs)

pub turned_snoc : {A B : Type 0} (f : A → B) (xs : List A) (x : A) → reverse (map f (xs ++ x ∷ [])) ≡ f x ∷ reverse (map f xs)
turned_snoc f xs x = ap reverse (map_snoc f xs x) ∙ reverse_snoc (map f xs) (f x)

-- two ways to one thing, along a list that was turned
pub turned_ways : {A B S C : Type 0} (f : A → B) (o : B → C) (v : A → S) (q : S → C) (xs : List A) → ((x : A) → o (f x) ≡ q (v x)) → map o (reverse (map f xs)) ≡ map q (reverse (map v xs))
turned_ways f o v q [] same = refl
turned_ways f o v q (x ∷ xs) same =
    ap (map o) (turned_cons f x xs)
    ∙ (map_snoc o (reverse (map f xs)) (f x)
    ∙ ((λ i. turned_ways f o v q xs same i ++ same x i ∷ [])
    ∙ (sym (map_snoc q (reverse (map v xs)) (v x)) ∙ ap (map q) (sym (turned_cons v x xs)))))

module _ {A : Type 0} where
  before_last : (y : A) (ys : List A) (i : ℕ) (z : A) → slice_get (reverse ys) i ≡ Some z → slice_get ys (length ys - 1 - i) ≡ Some z → slice_get (y ∷ ys) (length (y ∷ ys) - 1 - i) ≡ Some z
  before_last y ys i z f at =
      let within = slice_get_within (reverse ys) i z f in
      let len = length-reverse ys in
      let next : length (y ∷ ys) - 1 - i ≡ suc (length ys - 1 - i) = omega arith in
      subst (λ (n : ℕ). slice_get (y ∷ ys) n ≡ Some z) (sym next) at

  at_last : (y : A) (ys : List A) → slice_get (y ∷ ys) (length (y ∷ ys) - 1 - length (reverse ys)) ≡ Some y
  at_last y ys =
      let len = length-reverse ys in
      let first : length (y ∷ ys) - 1 - length (reverse ys) ≡ 0 = omega arith in
      subst (λ (n : ℕ). slice_get (y ∷ ys) n ≡ Some y) (sym first) refl

  -- an element of a list from its end
  pub reverse_get : (xs : List A) (j : ℕ) (x : A) → slice_get (reverse xs) j ≡ Some x → slice_get xs (length xs - 1 - j) ≡ Some x
  reverse_get [] j x e = absurd (let no = slice_get_within (reverse []) j x e in omega arith)
  reverse_get (y ∷ ys) j x e =
      snoc_each (λ (i : ℕ) (z : A). slice_get (y ∷ ys) (length (y ∷ ys) - 1 - i) ≡ Some z) (reverse ys) y (λ i z f. before_last y ys i z f (reverse_get ys i z f)) (at_last y ys) j x
      (ap (λ l. slice_get l j) (sym (reverse_cons y ys)) ∙ e)

pub zip_append : {A B : Type 0} (R : A → B → Type 0) (xs : List A) (ys : List B) (zs : List A) (ws : List B) → AllZip R xs ys → AllZip R zs ws → AllZip R (xs ++ zs) (ys ++ ws)
zip_append R [] [] zs ws p q = q
zip_append R [] (y ∷ ys) zs ws p q = elim p [ ]
zip_append R (x ∷ xs) [] zs ws p q = elim p [ ]
zip_append R (x ∷ xs) (y ∷ ys) zs ws p q = (p.0, zip_append R xs ys zs ws p.1 q)

pub zip_same : {A : Type 0} (R : A → A → Type 0) (xs : List A) → ((k : ℕ) (x : A) → slice_get xs k ≡ Some x → R x x) → AllZip R xs xs
zip_same R [] each = tt
zip_same R (x ∷ xs) each = (each 0 x refl, zip_same R xs (λ k y e. each (suc k) y e))

-- an element of the first of two lists
pub get_front : {A : Type 0} (xs ys : List A) (k : ℕ) (x : A) → slice_get xs k ≡ Some x → slice_get (xs ++ ys) k ≡ Some x
get_front [] ys k x e = absurd (let no = slice_get_within [] k x e in omega arith)
get_front (z ∷ xs) ys zero x e = e
get_front (z ∷ xs) ys (suc k) x e = get_front xs ys k x e

-- a history in which no caller has entries is empty
pub none_made : {E : Type 0} (caller : E → ℕ) (log : List E) → ((who : ℕ) → made_by caller who log ≡ []) → log ≡ []
none_made caller [] none = refl
none_made {E} caller (e ∷ es) none =
    let own = made_by caller (caller e) es in
    let is : (if eqb (caller e) (caller e) then e ∷ own else own) ≡ e ∷ own = ap (λ (b : Bool). if b then e ∷ own else own) (eq-eqb (caller e) (caller e) refl) in
    absurd (let no : e ∷ own ≡ [] = sym is ∙ none (caller e) in cc no)

module _ {S O E : Type 0} (g : Ghosts S O E) where
  pub comes_same : (x : S) → IsFresh g x → ComesBack g x x
  comes_same x fresh = (fresh.0, refl, fresh.1, refl)

  -- a value that its lock gave back with the passes that it was made with
  pub undone : (seats : ℕ) (h : Held S O E) (y : S) → IsHeld g seats h → g.sound y → g.opening y ≡ g.opening (first_value h) → g.first y ≡ g.first (first_value h) → MadeBelow g h.start.seats (g.history y)
      → ((k : ℕ) (s : Spot O E) → slice_get h.spots k ≡ Some s → Told g (g.history y) (s.known.caller, s.known.seen)) → ComesBack g (first_value h) y
  undone seats h y held sound opening first below told =
      (sound, opening, none_made g.caller (g.history y) (λ who. by_order who (ltb who seats) refl), first)
    where
      by_order : (who : ℕ) (b : Bool) → ltb who seats ≡ b → made_by g.caller who (g.history y) ≡ []
      by_order who true e =
          let few : who < seats = grind (arith, nat_tests) in
          let many = held.many in
          let s = get_there h.spots who (omega arith) in
          let new = (held.each who s.0 s.1).1 in
          let t = told who s.0 s.1 in
          subst (λ (n : ℕ). made_by g.caller n (g.history y) ≡ []) new.0 (t.1 ∙ ap (made_by g.caller s.0.known.caller) new.1)
      by_order who false e =
          let most : seats ≤ who = grind (arith, nat_tests) in
          below who (let same = held.callers in omega arith)

  -- the seats at one lock more
  pub deals_on : (homes : List (Home O)) (h : Held S O E) (seats places : ℕ) (old new : List (Seats O E)) → AreDealt homes (places + 1) old → IsHeld g seats h → length old ≡ seats → length new ≡ length old
      → ZipsAll Extends old h.spots new → AreDealt (homes ++ home_in g h ∷ []) places new
  deals_on homes h seats places old new dealt held len same zips k c c_is =
      let within = slice_get_within new k c c_is in
      let many = held.many in
      let a = get_there old k (omega arith) in
      let s = get_there h.spots k (omega arith) in
      let b = zips k a.0 s.0 a.1 s.1 in
      let is : b.0 ≡ c = one_of (sym b.1 ∙ c_is) in
      let spots : c.spots ≡ a.0.spots ++ s.0 ∷ [] = ap (λ (x : Seats O E). x.spots) (sym is) ∙ b.2.0 in
      let room : c.room + 1 ≡ a.0.room = ap (λ (x : Seats O E). x.room + 1) (sym is) ∙ b.2.1 in
      let was = dealt k a.0 a.1 in
      let seat = held.each k s.0 s.1 in (
        ap (map (λ (x : Spot O E). home_of x)) spots ∙ (map_snoc (λ (x : Spot O E). home_of x) a.0.spots s.0 ∙ (λ i. was.0 i ++ seat.0 i ∷ [])),
        subst (λ (l : List (Spot O E)). IsNewPass k l) (sym spots) (snoc_each (λ (j : ℕ) (x : Spot O E). IsNewFor k x) a.0.spots s.0 was.1 seat.1),
        (let most = was.2 in omega arith),
      )

-- what was dealt to callers may be given to them, the last caller's first
module _ {O E : Type 0} where
  pub spare_of : (homes : List (Home O)) (columns all : List (Seats O E)) → IsPrefix columns all → AreDealt homes 0 all → AreSpare homes 0 (reverse (map (λ (c : Seats O E). c.spots) columns))
  spare_of homes columns all front dealt j p p_is =
      let spots = map (λ (c : Seats O E). c.spots) columns in
      let at = reverse_get spots j p p_is in
      let n = length spots - 1 - j in
      let c = map_get (λ (c : Seats O E). c.spots) columns n p at in
      let d = dealt n c.0 (ap (λ l. slice_get l n) (sym front.1) ∙ get_front columns front.0 n c.0 c.1) in
      let len = length-reverse spots in
      let number : n ≡ 0 + (length (reverse spots) - 1 - j) = omega arith in (
        ap (map (λ (s : Spot O E). home_of s)) (sym c.2) ∙ d.0,
        subst (λ (m : ℕ). IsNewPass m p) number (subst (λ (l : List (Spot O E)). IsNewPass n l) c.2 d.1),
      )
