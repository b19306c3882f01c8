-- What the last history tells of passes that were joined one after another.
use Rattle.std.proofs.Common.{◌≡◌, ℕ, suc, ◌≤◌, List, [], ◌∷◌, ◌++◌, length, Some, slice_get, refl, ap, sym, ◌∙◌, subst, arith, append_assoc}
use Rattle.std.proofs.lemmas.Option.{slice_get_within}
use mathlib.Core.Logic.{dite}
use mathlib.Core.List.{IsPrefix}
use native.Mathlib.Decide.{ℕ_discrete}
use Rattle.shelf_lock.specs.declared.kept.Kept.{Ghosts}
use Rattle.shelf_lock.specs.declared.view.View.{View}
use Rattle.shelf_lock.specs.Order.{Begins, Told, Each, both}

module _ {A : Type 0} where
  at_length : (xs rest : List A) (x : A) → slice_get ((xs ++ x ∷ []) ++ rest) (length xs) ≡ Some x
  at_length [] rest x = refl
  at_length (y ∷ ys) rest x = at_length ys rest x

  pub prefix_at : (xs ys : List A) (x : A) → IsPrefix (xs ++ x ∷ []) ys → slice_get ys (length xs) ≡ Some x
  prefix_at xs ys x p = ap (λ l. slice_get l (length xs)) (sym p.1) ∙ at_length xs p.0 x

  pub prefix_less : (xs ys : List A) (x : A) → IsPrefix (xs ++ x ∷ []) ys → IsPrefix xs ys
  prefix_less xs ys x p = (x ∷ p.0, sym (append_assoc xs (x ∷ []) p.0) ∙ p.1)

  each_tail : (P : A → Type 0) (xs ys : List A) → Each P (xs ++ ys) → Each P ys
  each_tail P [] ys all = all
  each_tail P (x ∷ xs) ys all = each_tail P xs ys all.1

  each_head : (P : A → Type 0) (xs ys : List A) → Each P (xs ++ ys) → Each P xs
  each_head P [] ys all = tt
  each_head P (x ∷ xs) ys all = (all.0, each_head P xs ys all.1)

  -- what holds of the n-th and of all after it
  pub from_next : (T : A → Type 0) (all : List A) (n : ℕ) (x : A) → slice_get all n ≡ Some x → T x → ((k : ℕ) (p : A) → suc n ≤ k → slice_get all k ≡ Some p → T p)
      → (k : ℕ) (p : A) → n ≤ k → slice_get all k ≡ Some p → T p
  from_next T all n x at here later k p le e = dite (ℕ_discrete k n) (λ same. subst T (one_of (sym at ∙ (ap (slice_get all) (sym same) ∙ e))) here) (λ ne. later k p (omega arith) e)
    where
      one_of : Some x ≡ Some p → x ≡ p
      one_of f = cc f

  pub none_behind : (T : A → Type 0) (all : List A) (n : ℕ) → length all ≡ suc n → (k : ℕ) (p : A) → suc n ≤ k → slice_get all k ≡ Some p → T p
  none_behind T all n len k p le e = absurd (let within = slice_get_within all k p e in omega arith)

module _ {S O E : Type 0} (g : Ghosts S O E) where
  -- a history tells of a pass and of those that were taken into it
  abbrev pub TellsOf : List E → ℕ → View O E → Type 0
  TellsOf log who v = Told g log (who, v.seen) × Each (Told g log) v.heard

  pub tells_of : (log : List E) (v : View O E) (who : ℕ) → v.caller ≡ who → Begins g log v → TellsOf log who v
  tells_of log v who is b = subst (λ c. TellsOf log c v) is ((b.0, b.1), b.2)

  -- a history that tells of two passes as one tells of each
  pub tells : (v u w : View O E) → w ≡ both v u → (log : List E) → Begins g log w → Begins g log v × Begins g log u
  tells v u w is log b =
      let b' : Begins g log (both v u) = subst (Begins g log) is b in ((b'.0, b'.1, each_tail (Told g log) u.heard v.heard b'.2.1), (b'.2.0.0, b'.2.0.1, each_head (Told g log) u.heard v.heard b'.2.1))
