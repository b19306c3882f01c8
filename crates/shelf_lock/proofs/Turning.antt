-- What a turn does to what its pass has seen.
use Rattle.std.proofs.Common.{◌≡◌, ℕ, eqb, List, [], ◌∷◌, ◌++◌, if◌then◌else◌, Bool, Result, Ok, Err, MatchResult, ap, sym, ◌∙◌, subst, inl, inr, eq-eqb}
use Rattle.std.proofs.lemmas.List.Elements.{filter-append}
use Rattle.std.specs.Fn.{Once}
use denote.Ref.{MutBor}
use mathlib.Core.List.{IsPrefix}
use Rattle.shelf_lock.specs.declared.kept.Kept.{Ghosts}
use Rattle.shelf_lock.specs.declared.view.View.{View}
use Rattle.shelf_lock.specs.Order.{made_by, Adds, MakesOne, MakesNone}
use Rattle.shelf_lock.specs.Turns.{Turned, FoundWorn}
use Rattle.shelf_lock.proofs.Prefixes.{prefix_trans, adds_prefix}

pub match_map : {A B : Type 0} (P P' : A → Type 0) (Q Q' : B → Type 0) → ((a : A) → P a → P' a) → ((b : B) → Q b → Q' b) → (r : Result A B) → MatchResult r P Q → MatchResult r P' Q'
match_map P P' Q Q' f h (Ok a) m = f a m
match_map P P' Q Q' f h (Err b) m = h b m

pub match_same : {A B : Type 0} (P : A → Type 0) (Q : B → Type 0) (R : Type 0) → ((a : A) → P a → R) → ((b : B) → Q b → R) → (r : Result A B) → MatchResult r P Q → R
match_same P Q R f h (Ok a) m = f a m
match_same P Q R f h (Err b) m = h b m

-- one entry more is one more of its caller
pub makes_one : {E : Type 0} (caller : E → ℕ) (who : ℕ) (seen old new : List E) → made_by caller who old ≡ made_by caller who seen → Adds caller who old new → MakesOne caller who seen new
makes_one caller who seen old new same (inl is) = inl (ap (made_by caller who) is ∙ same)
makes_one caller who seen old new same (inr (e, is, more)) =
    inr (
      e,
      is,
      ap (made_by caller who) more
          ∙ (filter-append (λ x. eqb (caller x) who) old (e ∷ [])
          ∙ (ap (λ l. made_by caller who old ++ l) (ap (λ (b : Bool). if b then e ∷ [] else []) (eq-eqb (caller e) who is)) ∙ ap (λ l. l ++ e ∷ []) same)),
    )

module _ {S O E F A : Type 0} (g : Ghosts S O E) (call : Once F (MutBor S × Unit {0}) (A × (MutBor S × Unit {0}))) (f : F) (v w : View O E) where
  pub turned_grows : (a : A) → Turned g call f v a w → IsPrefix v.seen w.seen
  turned_grows a t = subst (IsPrefix v.seen) (sym (ap (λ u. u.seen) t.5)) (prefix_trans v.seen (g.history t.0) (g.history t.1) t.2.2.0 (adds_prefix g.caller v.caller (g.history t.0) (g.history t.1) t.4.3))

  pub turned_makes : (a : A) → Turned g call f v a w → MakesOne g.caller v.caller v.seen w.seen
  turned_makes a t = subst (MakesOne g.caller v.caller v.seen) (sym (ap (λ u. u.seen) t.5)) (makes_one g.caller v.caller v.seen (g.history t.0) (g.history t.1) t.2.2.1 t.4.3)

module _ {S O E : Type 0} (g : Ghosts S O E) (v w : View O E) where
  pub worn_grows : FoundWorn g v w → IsPrefix v.seen w.seen
  worn_grows t = subst (IsPrefix v.seen) (sym (ap (λ u. u.seen) t.5)) t.3.0

  pub worn_makes : FoundWorn g v w → MakesNone g.caller v.caller v.seen w.seen
  worn_makes t = subst (MakesNone g.caller v.caller v.seen) (sym (ap (λ u. u.seen) t.5)) t.3.1
