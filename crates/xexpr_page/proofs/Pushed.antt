-- Pieces of a page, one after the other.
use Rattle.std.proofs.Common.{◌≡◌, ◌<◌, ◌≤◌, ◌+◌, ◌-◌, take, ℕ, List, [], ◌∷◌, ◌++◌, map, length, drop, get_or, add-one, true, false, subst, Option, Some, None, option_map, refl, sym, ap, ◌∙◌, append_assoc, arith}
use Rattle.std.proofs.Math.Seq.{drop-cons}
use Rattle.std.proofs.lemmas.Bool.{cond-true, cond-false}
use Rattle.std.proofs.lemmas.List.{take_rest}
use Rattle.std.proofs.lemmas.Option.{same_Some}
use Rattle.script_value.specs.Val.{Vals, symbol, list, val, vals_of, depth, depth_all}
use Rattle.script_value.specs.Views.{meaning}
use Rattle.script_value.specs.declared.value.Value.{Value}
use Rattle.std.specs.Prelude.{Result, Err}
use Rattle.xexpr_page.specs.declared.fault.RenderFault.{RenderFault}
use Rattle.xexpr_page.specs.declared.fault.RenderFault.TheVariants.{Memory, NotPage}
use Rattle.page_spec.specs.Markup.{start_tag, end_tag, is_void, is_element}
use Rattle.page_spec.specs.Page.{join, appended, element, pair_in, void_of, element_of, page_of, children_of}
use Rattle.xexpr_page.specs.Answers.{Pushes}
use Rattle.script_value.proofs.Folds.{item_depth}

-- one piece more, and what is left
pub appended_join : (old new : List ℕ) (p q : Option (List ℕ)) → appended old p ≡ Some new → appended old (join p q) ≡ appended new q
appended_join old new None q e = let h : None ≡ Some new = e in cc
appended_join old new (Some a) None e = refl
appended_join old new (Some a) (Some b) e =
    let h : old ++ a ≡ new = same_Some (old ++ a) new e in
    rw (← h) (ap Some (sym (append_assoc old a b)))

pub joined_none : (p q : Option (List ℕ)) → p ≡ None → join p q ≡ None
joined_none None q e = refl
joined_none (Some a) q e = cc

pub appended_none : (old : List ℕ) (p : Option (List ℕ)) → p ≡ None → appended old p ≡ None
appended_none old p e = rw e refl

pub none_appended : (old : List ℕ) (p : Option (List ℕ)) → appended old p ≡ None → p ≡ None
none_appended old None e = refl
none_appended old (Some a) e = let h : Some (old ++ a) ≡ None = e in cc

pub no_pair : (xs : List Value) → (length xs ≡ 2 → ⊥) → pair_in (vals_of (map meaning xs)) ≡ None
no_pair [] h = refl
no_pair (x ∷ []) h = refl
no_pair (x ∷ y ∷ []) h = absurd (h refl)
no_pair (x ∷ y ∷ z ∷ xs) h = refl

-- a list that the name of a void element begins
pub void_pushed : (r : Result (Unit {0}) RenderFault) (old new n : List ℕ) (vs : Vals) → is_void n ≡ true → Pushes r old new (void_of n vs)
    → Pushes r old new (page_of (list (val (symbol n) vs)))
void_pushed r old new n vs v h = subst (λ p. Pushes r old new p) (sym (cond-true (is_void n) (void_of n vs) (element_of n vs) v)) h

-- and one that another name begins
pub element_pushed : (r : Result (Unit {0}) RenderFault) (old new n : List ℕ) (vs : Vals) → is_void n ≡ false → Pushes r old new (element_of n vs)
    → Pushes r old new (page_of (list (val (symbol n) vs)))
element_pushed r old new n vs v h = subst (λ p. Pushes r old new p) (sym (cond-false (is_void n) (void_of n vs) (element_of n vs) v)) h

-- a void element with two parts or more has a child
pub void_none : (n : List ℕ) (xs : List Value) → 2 ≤ length xs → void_of n (vals_of (map meaning xs)) ≡ None
void_none n [] h = absurd (omega (arith, h))
void_none n (x ∷ []) h = absurd (omega (arith, h))
void_none n (x ∷ y ∷ xs) h = refl

-- the children from a place on
pub children_here : (xs : List Value) (i : ℕ) (d : Value) → i < length xs
    → children_of (vals_of (map meaning (drop i xs))) ≡ join (page_of (meaning (get_or xs i d))) (children_of (vals_of (map meaning (drop (i + 1) xs))))
children_here xs i d h = rw (drop-cons xs i d, add-one) refl

-- one child more
pub child_more : (old now new : List ℕ) (xs : List Value) (i : ℕ) (d : Value) → i < length xs → d ≡ get_or xs i d
    → appended old (children_of (vals_of (map meaning xs))) ≡ appended now (children_of (vals_of (map meaning (drop i xs))))
    → appended now (page_of (meaning d)) ≡ Some new
    → appended old (children_of (vals_of (map meaning xs))) ≡ appended new (children_of (vals_of (map meaning (drop (i + 1) xs))))
child_more old now new xs i d h e inv step =
    inv ∙ ap (appended now) (children_here xs i d h)
    ∙ appended_join now new (page_of (meaning (get_or xs i d))) (children_of (vals_of (map meaning (drop (i + 1) xs)))) (rw (← e) step)

-- a child that is no page
pub child_none : (old now : List ℕ) (xs : List Value) (i : ℕ) (d : Value) → i < length xs → d ≡ get_or xs i d
    → appended old (children_of (vals_of (map meaning xs))) ≡ appended now (children_of (vals_of (map meaning (drop i xs))))
    → page_of (meaning d) ≡ None
    → children_of (vals_of (map meaning xs)) ≡ None
child_none old now xs i d h e inv none =
    none_appended old (children_of (vals_of (map meaning xs)))
    (inv ∙ appended_none now (children_of (vals_of (map meaning (drop i xs))))
    (children_here xs i d h ∙ joined_none (page_of (meaning (get_or xs i d))) (children_of (vals_of (map meaning (drop (i + 1) xs)))) (rw (← e) none)))

-- a child nests less deep than all children
pub child_depth : (xs : List Value) (i : ℕ) (d : Value) → i < length xs → d ≡ get_or xs i d
    → depth (meaning d) ≤ depth_all (vals_of (map meaning xs))
child_depth xs i d h e = rw e (item_depth xs i d h)

-- an element that was written: its start, its children and its end
pub element_written : (old mid late : List ℕ) (n : List ℕ) (attributes children : Option (List ℕ))
    → is_element n ≡ true
    → appended old (option_map (start_tag n) attributes) ≡ Some mid
    → appended mid children ≡ Some late
    → appended old (element n attributes children) ≡ Some (late ++ end_tag n)
element_written old mid late n attributes children named start inner =
    rw named
    (appended_join old mid (option_map (start_tag n) attributes) (join children (Some (end_tag n))) start
    ∙ appended_join mid late children (Some (end_tag n)) inner)

-- a fault that is handed on
pub handed_on : (f : RenderFault) (old now new : List ℕ) (p q : Option (List ℕ)) → Pushes (Err f) now new p → (p ≡ None → q ≡ None) → Pushes (Err f) old new q
handed_on Memory old now new p q h k = tt
handed_on NotPage old now new p q h k = k h

-- the first item of a list, and the others
pub first_item : (xs : List Value) (d : Value) → 1 ≤ length xs → d ≡ get_or xs 0 d
    → vals_of (map meaning xs) ≡ val (meaning d) (vals_of (map meaning (take (length xs - 1) (drop 1 xs))))
first_item [] d h e = absurd (omega arith)
first_item (x ∷ xs) d h e = rw (take_rest (x ∷ xs) 1) (ap (λ v. val (meaning v) (vals_of (map meaning xs))) (sym e))
