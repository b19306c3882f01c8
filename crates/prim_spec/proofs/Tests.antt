-- What the tests of values say.
use Rattle.std.proofs.Common.{◌≡◌, Bool, true, false, List, [], ◌∷◌, refl, ap}
use Rattle.std.specs.Prelude.{◌↔◌, IsTrue}
use Rattle.std.specs.Bool.{Decides, one_answer}
use Rattle.std.specs.Cmp.{signed_Decides}
use Rattle.std.proofs.lemmas.Bool.{and_parts, and_from}
use Rattle.std.proofs.lemmas.Slice.Eq.{bytes_eq-Decides}
use Rattle.script_value.specs.Val.{Val, Vals, number, truth, text, symbol, list, no_vals, val, vals_of}
use Rattle.prim_spec.specs.Same.{same, same_items}
use Rattle.prim_spec.specs.Table.{is_empty_list}

pub empty_list : (vs : List Val) (b : Bool) → (IsTrue b ↔ (vs ≡ [])) → is_empty_list (list (vals_of vs)) ≡ b
empty_list [] true h = refl
empty_list [] false h = let p = h.1 refl in cc
empty_list (v ∷ vs) true h = let p = h.0 refl in cc
empty_list (v ∷ vs) false h = refl

mutual
  pub same_means : (v w : Val) → same v w ≡ true → v ≡ w
  same_means (number m) (number n) h = ap number ((signed_Decides m n).0 h)
  same_means (truth true) (truth true) h = refl
  same_means (truth false) (truth false) h = refl
  same_means (text s) (text t) h = ap text ((bytes_eq-Decides s t).0 h)
  same_means (symbol s) (symbol t) h = ap symbol ((bytes_eq-Decides s t).0 h)
  same_means (list vs) (list ws) h = ap list (same_items_mean vs ws h)
  same_means v w h = cc

  pub same_items_mean : (vs ws : Vals) → same_items vs ws ≡ true → vs ≡ ws
  same_items_mean no_vals no_vals h = refl
  same_items_mean (val v vs) (val w ws) h =
      let two = and_parts (same v w) (same_items vs ws) h in
      let p = same_means v w two.0 in
      let q = same_items_mean vs ws two.1 in
      cc
  same_items_mean vs ws h = cc

mutual
  pub same_self : (v : Val) → same v v ≡ true
  same_self (number n) = (signed_Decides n n).1 refl
  same_self (truth true) = refl
  same_self (truth false) = refl
  same_self (text t) = (bytes_eq-Decides t t).1 refl
  same_self (symbol s) = (bytes_eq-Decides s s).1 refl
  same_self (list vs) = same_items_self vs

  pub same_items_self : (vs : Vals) → same_items vs vs ≡ true
  same_items_self no_vals = refl
  same_items_self (val v vs) = and_from _ _ (same_self v) (same_items_self vs)

pub same_decides : (v w : Val) → Decides (same v w) (v ≡ w)
same_decides v w = (same_means v w, λ e. rw (← e) (same_self v))

pub equal_is_same : (v w : Val) (r : Bool) → (IsTrue r ↔ (v ≡ w)) → same v w ≡ r
equal_is_same v w r h = one_answer (same v w) r (same_decides v w) (h.0, h.1)
