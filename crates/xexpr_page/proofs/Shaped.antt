-- Whether a value is a page, by its parts.
use Rattle.std.proofs.Common.{◌≡◌, ◌<◌, ◌+◌, ℕ, true, false, List, map, drop, length, get_or, Option, Some, None, refl, sym, ap, ◌∙◌}
use Rattle.std.proofs.lemmas.Bool.{cond-false}
use Rattle.std.specs.Prelude.{is_some}
use Rattle.script_value.specs.Val.{Vals, symbol, list, val, vals_of}
use Rattle.script_value.specs.Views.{meaning}
use Rattle.script_value.specs.declared.value.Value.{Value}
use Rattle.page_spec.specs.Markup.{is_void, is_element}
use Rattle.page_spec.specs.Page.{join, element, void_of, element_of, page_of, children_of}
use Rattle.xexpr_page.proofs.Pushed.{children_here}

pub not_there : (p : Option (List ℕ)) → is_some p ≡ false → p ≡ None
not_there None h = refl
not_there (Some a) h = absurd (cc)

-- after a piece that is there, it all rests on the others
pub some_behind : (p q : Option (List ℕ)) → is_some p ≡ true → is_some (join p q) ≡ is_some q
some_behind None q h = absurd (cc)
some_behind (Some a) None h = refl
some_behind (Some a) (Some b) h = refl

-- one child more
pub child_is_page : (xs : List Value) (i : ℕ) (d : Value) → i < length xs → d ≡ get_or xs i d → is_some (page_of (meaning d)) ≡ true
    → is_some (children_of (vals_of (map meaning (drop i xs)))) ≡ is_some (children_of (vals_of (map meaning (drop (i + 1) xs))))
child_is_page xs i d h e p =
    ap is_some (children_here xs i d h)
    ∙ some_behind (page_of (meaning (get_or xs i d))) (children_of (vals_of (map meaning (drop (i + 1) xs)))) (rw (← e) p)

-- an element whose attributes are none
pub no_element : (n : List ℕ) (attributes children : Option (List ℕ)) → is_element n ≡ true → is_some attributes ≡ false
    → false ≡ is_some (element n attributes children)
no_element n None children named h = rw named refl
no_element n (Some a) children named h = absurd (cc)

-- an element whose attributes are there
pub some_element : (n : List ℕ) (attributes children : Option (List ℕ)) → is_element n ≡ true → is_some attributes ≡ true
    → is_some children ≡ is_some (element n attributes children)
some_element n None children named h = absurd (cc)
some_element n (Some a) None named h = rw named refl
some_element n (Some a) (Some b) named h = rw named refl

-- a list whose first item names no void element
pub named_element : (n : List ℕ) (vs : Vals) → is_void n ≡ false → is_some (element_of n vs) ≡ is_some (page_of (list (val (symbol n) vs)))
named_element n vs v = ap is_some (sym (cond-false (is_void n) (void_of n vs) (element_of n vs) v))
