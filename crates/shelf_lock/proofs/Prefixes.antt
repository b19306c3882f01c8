-- Beginnings of a history, and the entries of one caller.
use Rattle.std.proofs.Common.{◌≡◌, ◌≢◌, ℕ, eqb, List, [], ◌∷◌, ◌++◌, if◌then◌else◌, length, zero, suc, Some, slice_get, Bool, true, false, refl, ap, sym, ◌∙◌, append_assoc, subst, inl, inr, ne_eqb, arith, ltb, ◌+◌, ◌<◌, ◌≤◌, length-append}
use Rattle.std.proofs.lemmas.List.{append-nil}
use Rattle.std.proofs.lemmas.List.Elements.{filter-append}
use mathlib.Core.List.{IsPrefix}
use Rattle.std.proofs.lemmas.Bool.Decides.{nat_tests}
use Rattle.shelf_lock.specs.Order.{entry_limit, made_by, Adds, longer}

pub prefix_self : {A : Type 0} (xs : List A) → IsPrefix xs xs
prefix_self xs = ([], append-nil xs)

pub prefix_trans : {A : Type 0} (xs ys zs : List A) → IsPrefix xs ys → IsPrefix ys zs → IsPrefix xs zs
prefix_trans xs ys zs p q = (p.0 ++ q.0, sym (append_assoc xs p.0 q.0) ∙ (ap (λ w. w ++ q.0) p.1 ∙ q.1))

module _ {E : Type 0} (caller : E → ℕ) where
  skips : (who : ℕ) (e : E) → caller e ≢ who → made_by caller who (e ∷ []) ≡ []
  skips who e ne = ap (λ (b : Bool). if b then e ∷ [] else []) (ne_eqb (caller e) who ne)

  pub adds_prefix : (c : ℕ) (old new : List E) → Adds caller c old new → IsPrefix old new
  adds_prefix c old new (inl same) = subst (IsPrefix old) (sym same) (prefix_self old)
  adds_prefix c old new (inr (e, is, more)) = (e ∷ [], sym more)

  -- what one caller adds is no entry of another
  pub adds_others : (c who : ℕ) (old new : List E) → who ≢ c → Adds caller c old new → made_by caller who new ≡ made_by caller who old
  adds_others c who old new ne (inl same) = ap (made_by caller who) same
  adds_others c who old new ne (inr (e, is, more)) =
      ap (made_by caller who) more
      ∙ (filter-append (λ (x : E). eqb (caller x) who) old (e ∷ [])
      ∙ (ap (λ l. made_by caller who old ++ l) (skips who e (λ h. ne (sym h ∙ is))) ∙ append-nil (made_by caller who old)))

  -- where there was room for an entry, what was added stays within the limit
  pub adds_within : (c first : ℕ) (old new : List E) → Adds caller c old new → first + length old < entry_limit → first + length new ≤ entry_limit
  adds_within c first old new (inl same) room = omega (arith, ap length same, room)
  adds_within c first old new (inr (e, is, more)) room = omega (arith, ap length more, length-append old (e ∷ []), room)

-- what holds of each element and its place, and of one more at the end
pub snoc_each : {A : Type 0} (K : ℕ → A → Type 0) (xs : List A) (x : A) → ((k : ℕ) (p : A) → slice_get xs k ≡ Some p → K k p) → K (length xs) x → (k : ℕ) (p : A) → slice_get (xs ++ x ∷ []) k ≡ Some p → K k p
snoc_each K [] x all new zero p e = subst (K 0) (cc e) new
snoc_each K [] x all new (suc k) p e = absurd (cc e)
snoc_each K (y ∷ ys) x all new zero p e = all zero p e
snoc_each K (y ∷ ys) x all new (suc k) p e = snoc_each (λ j q. K (suc j) q) ys x (λ j q f. all (suc j) q f) new k p e

module _ {E : Type 0} where
  -- of two beginnings of one list the one that is no longer begins the other
  pub shorter_begins : (xs ys log : List E) → IsPrefix xs log → IsPrefix ys log → length xs ≤ length ys → IsPrefix xs ys
  shorter_begins [] ys log p q le = (ys, refl)
  shorter_begins (x ∷ xs) [] log p q le = absurd (omega arith)
  shorter_begins (x ∷ xs) (y ∷ ys) [] p q le = absurd (cc p.1)
  shorter_begins (x ∷ xs) (y ∷ ys) (z ∷ zs) p q le =
      let r = shorter_begins xs ys zs (p.0, cc p.1) (q.0, cc q.1) (omega (arith, le)) in
      (r.0, (let a : x ≡ y = cc (p.1, q.1) in λ i. a i ∷ r.1 i))

  -- what has been made by then is no more than what has been made in the end
  made_between : (caller : E → ℕ) (who : ℕ) (xs ys log : List E) → IsPrefix xs ys → IsPrefix ys log → made_by caller who log ≡ made_by caller who xs → made_by caller who ys ≡ made_by caller who xs
  made_between caller who xs ys log p q same =
      let f : List E → List E = made_by caller who in
      let a : f ys ≡ f xs ++ f p.0 = ap f (sym p.1) ∙ filter-append (λ (x : E). eqb (caller x) who) xs p.0 in
      let b : f log ≡ f ys ++ f q.0 = ap f (sym q.1) ∙ filter-append (λ (x : E). eqb (caller x) who) ys q.0 in
      let n : length (f p.0) ≡ 0 = omega (arith, ap length a, ap length b, ap length same, length-append (f xs) (f p.0), length-append (f ys) (f q.0)) in
      a ∙ (ap (λ l. f xs ++ l) (none_left (f p.0) n) ∙ append-nil (f xs))
    where
      none_left : (l : List E) → length l ≡ 0 → l ≡ []
      none_left [] e = refl
      none_left (x ∷ xs) e = absurd (omega arith)

  -- the longer of what a caller has seen and what another has
  pub longer_of : (caller : E → ℕ) (who : ℕ) (xs ys log : List E) → IsPrefix xs log → IsPrefix ys log → made_by caller who log ≡ made_by caller who xs
      → IsPrefix (longer xs ys) log × (made_by caller who log ≡ made_by caller who (longer xs ys)) × IsPrefix xs (longer xs ys) × (made_by caller who (longer xs ys) ≡ made_by caller who xs) × IsPrefix ys (longer xs ys)
  longer_of caller who xs ys log p q same = by_case (ltb (length xs) (length ys)) refl
    where
      by_case : (b : Bool) → ltb (length xs) (length ys) ≡ b
          → IsPrefix (if b then ys else xs) log × (made_by caller who log ≡ made_by caller who (if b then ys else xs)) × IsPrefix xs (if b then ys else xs) × (made_by caller who (if b then ys else xs) ≡ made_by caller who xs) × IsPrefix ys (if b then ys else xs)
      by_case true e =
          let le : length xs ≤ length ys = grind (arith, nat_tests) in
          let within = shorter_begins xs ys log p q le in
          let made = made_between caller who xs ys log within q same in
          (q, same ∙ sym made, within, made, prefix_self ys)
      by_case false e =
          let le : length ys ≤ length xs = grind (arith, nat_tests) in
          (p, same, prefix_self xs, refl, shorter_begins ys xs log q p le)
