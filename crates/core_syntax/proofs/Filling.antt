-- Templates with their expressions in their places.
use Rattle.std.proofs.Common.{◌≡◌, ℕ, ◌+◌, ◌<◌, ◌≤◌, ◌&&◌, Bool, true, false, not, List, [], ◌∷◌, ◌++◌, length, drop, get_or, Option, Some, None, Result, Ok, Err, refl, sym, ap, subst, ◌∙◌, inl, inr, Vec, Global}
use Rattle.std.specs.Prelude.{codes, option_map, unwrap_or, is_none, if◌then◌else◌}
use Rattle.std.proofs.lemmas.List.{drop_more, drop_all}
use Rattle.std.proofs.lemmas.Bool.{cases_Bool, false≢true}
use Rattle.std.proofs.Math.Bool.{and-false, and-true}
use Rattle.script_value.specs.Val.{Val, Vals, number, truth, text, symbol, list, no_vals, val}
use Rattle.script_value.specs.Views.{meaning, meanings}
use Rattle.script_value.specs.declared.value.Value.{Value}
use Rattle.script_value.specs.declared.outcome.Op.TheVariants as op
use Rattle.core_syntax.specs.declared.faults.SyntaxKind.{SyntaxKind}
use Rattle.core_syntax.specs.declared.faults.ReadFault.{ReadFault}
use Rattle.core_syntax.specs.declared.faults.ReadFault.TheVariants.{Memory, Syntax}
use Rattle.script_nodes.specs.Core.{Core, lit}
use Rattle.core_syntax.specs.Names.{◌>>=◌, CellNames}
use Rattle.core_syntax.specs.Shapes.{begins}
use Rattle.core_syntax.specs.Templates.{is_plain, are_plain, is_splice, has_splice}
use Rattle.core_syntax.specs.Forms.{filled, all_filled, unquoted, expression_in, part_of, bound_value, made, of_op}
use Rattle.core_syntax.specs.Filling.{in_some, unless_plain, part_filled, items_filled, list_filled, joined, unquote_filled}
use Rattle.core_syntax.specs.Gives.{Gives}

-- the expression of an unquote is read as that of a binding
unquoted_as_bound : (cells : CellNames) (scope : List (List ℕ)) (in_page : Bool) (vs : Vals) → unquoted cells scope in_page vs ≡ bound_value cells scope in_page (list vs)
unquoted_as_bound cells scope in_page no_vals = refl
unquoted_as_bound cells scope in_page (val w no_vals) = refl
unquoted_as_bound cells scope in_page (val w (val e no_vals)) = refl
unquoted_as_bound cells scope in_page (val w (val e (val v vs))) = refl

spliced_as_bound : (cells : CellNames) (scope : List (List ℕ)) (in_page : Bool) (v : Val) → expression_in cells scope in_page v ≡ bound_value cells scope in_page v
spliced_as_bound cells scope in_page (number n) = refl
spliced_as_bound cells scope in_page (truth b) = refl
spliced_as_bound cells scope in_page (text t) = refl
spliced_as_bound cells scope in_page (symbol s) = refl
spliced_as_bound cells scope in_page (list vs) = unquoted_as_bound cells scope in_page vs

pub splice_filled : (cells : CellNames) (scope : List (List ℕ)) (in_page : Bool) (v : Val) → is_splice v ≡ true
    → part_of cells scope in_page v ≡ bound_value cells scope in_page v
splice_filled cells scope in_page v h = rw h (spliced_as_bound cells scope in_page v)

-- a list, by its head and its items
pub unquote_is : (cells : CellNames) (scope : List (List ℕ)) (in_page : Bool) (vs : Vals) → begins (codes "unquote") vs ≡ true
    → part_filled cells scope in_page (list vs) ≡ unquote_filled cells scope in_page vs
unquote_is cells scope in_page vs b = rw b (ap (λ r. in_some r) (unquoted_as_bound cells scope in_page vs))

splice_not_plain : (v : Val) → is_splice v ≡ true → is_plain v ≡ false
splice_not_plain (number n) h = absurd (false≢true h)
splice_not_plain (truth b) h = absurd (false≢true h)
splice_not_plain (text t) h = absurd (false≢true h)
splice_not_plain (symbol s) h = absurd (false≢true h)
splice_not_plain (list vs) h =
    elim (cases_Bool (begins (codes "unquote") vs)) [
      | inl e ↦ rw e refl
      | inr e ↦ rw (e, h) refl
    ]

splices_not_plain : (vs : Vals) → has_splice vs ≡ true → are_plain vs ≡ false
splices_not_plain no_vals h = absurd (false≢true h)
splices_not_plain (val v vs) h =
    elim (cases_Bool (is_splice v)) [
      | inl e ↦ rw (splice_not_plain v e) refl
      | inr e ↦ (let rest : has_splice vs ≡ true = rw e at h in
          elim (cases_Bool (is_plain v)) [
            | inl p ↦ rw (p, splices_not_plain vs rest) refl
            | inr p ↦ rw p refl
          ])
    ]

pub joined_is : (cells : CellNames) (scope : List (List ℕ)) (in_page : Bool) (vs : Vals) → begins (codes "unquote") vs ≡ false → has_splice vs ≡ true
    → part_filled cells scope in_page (list vs) ≡ joined cells scope in_page vs
joined_is cells scope in_page vs b h =
    elim (cases_Bool (begins (codes "unquote-splicing") vs)) [
      | inl s ↦ rw (b, s, h) refl
      | inr s ↦ rw (b, s, splices_not_plain vs h, h) refl
    ]

listed : (r : Result (List Core) SyntaxKind) → in_some (made (of_op op.List) r) ≡ in_some r >>= (λ o. Ok (option_map (of_op op.List) o))
listed (Ok cs) = refl
listed (Err k) = refl

pub list_is : (cells : CellNames) (scope : List (List ℕ)) (in_page : Bool) (vs : Vals) → begins (codes "unquote") vs ≡ false → has_splice vs ≡ false
    → part_filled cells scope in_page (list vs) ≡ list_filled cells scope in_page vs
list_is cells scope in_page vs b h =
    let trees = listed (all_filled cells scope in_page [] vs) in
    elim (cases_Bool (begins (codes "unquote-splicing") vs)) [
      | inl s ↦ elim (cases_Bool (are_plain vs)) [
        | inl p ↦ rw (b, s, p, h) trees
        | inr p ↦ rw (b, s, p, h) trees
      ]
      | inr s ↦ elim (cases_Bool (are_plain vs)) [
        | inl p ↦ rw (b, s, p) refl
        | inr p ↦ rw (b, s, p, h) trees
      ]
    ]

-- a part is a literal where it is plain
plain_filled : (cells : CellNames) (scope : List (List ℕ)) (in_page : Bool) (v : Val) → is_plain v ≡ true → filled cells scope in_page v ≡ Ok (lit v)
plain_filled cells scope in_page (number n) h = refl
plain_filled cells scope in_page (truth b) h = refl
plain_filled cells scope in_page (text t) h = refl
plain_filled cells scope in_page (symbol s) h = refl
plain_filled cells scope in_page (list vs) h = rw h refl

given : (b : Bool) (r : Result Core SyntaxKind) (o : Option Core) (d : Core) → (b ≡ true → r ≡ Ok d) → unless_plain b r ≡ Ok o
    → (r ≡ Ok (unwrap_or o d)) × (b ≡ is_none o)
given true r None d f h = (f refl, refl)
given true r (Some x) d f h = absurd (let no : ⊥ = cc in no)
given false (Ok x) None d f h = absurd (let no : ⊥ = cc in no)
given false (Ok x) (Some y) d f h = (cc, refl)
given false (Err k) o d f h = absurd (let no : ⊥ = cc in no)

pub part_given : (cells : CellNames) (scope : List (List ℕ)) (in_page : Bool) (v : Val) (o : Option Core) → Gives (λ x. x) (Ok o) (part_filled cells scope in_page v)
    → (filled cells scope in_page v ≡ Ok (unwrap_or o (lit v))) × (is_plain v ≡ is_none o)
part_given cells scope in_page v o h = given (is_plain v) (filled cells scope in_page v) o (lit v) (plain_filled cells scope in_page v) h

fault_given : {A : Type 0} (b : Bool) (r : Result A SyntaxKind) (k : SyntaxKind) → unless_plain b r ≡ Err k → (r ≡ Err k) × (b ≡ false)
fault_given true r k h = absurd (let no : ⊥ = cc in no)
fault_given false (Ok x) k h = absurd (let no : ⊥ = cc in no)
fault_given false (Err j) k h = (cc, refl)

-- a fault of a part is the fault of the whole
pub part_stops : (cells : CellNames) (scope : List (List ℕ)) (in_page : Bool) (v : Val) (x : Result Core ReadFault) (d e : ReadFault) → x ≡ Err d → d ≡ e
    → Gives (λ y. y) (Err e) (part_filled cells scope in_page v) → Gives (λ y. y) x (filled cells scope in_page v)
part_stops cells scope in_page v x d Memory a b h = rw (a, b) tt
part_stops cells scope in_page v x d (Syntax k) a b h = rw (a, b) (fault_given (is_plain v) (filled cells scope in_page v) k h).0

pub gives_too : (x : Result (Option Core) ReadFault) (q r : Result (Option Core) SyntaxKind) → q ≡ r → Gives (λ y. y) x r → Gives (λ y. y) x q
gives_too x q r e h = subst (λ (p : Result (Option Core) SyntaxKind). Gives (λ y. y) x p) (sym e) h

-- one item of a list after the other
items_next : (xs : List Value) (i : ℕ) (x : Value) → i < length xs → x ≡ get_or xs i x → meanings (drop i xs) ≡ val (meaning x) (meanings (drop (i + 1) xs))
items_next xs i x h p = rw (drop_more xs i x h, ← p) refl

pub item_added : (cells : CellNames) (scope : List (List ℕ)) (in_page : Bool) (done : List Core) (xs : List Value) (i : ℕ) (x : Value) (o : Option Core)
    → i < length xs → x ≡ get_or xs i x → Gives (λ y. y) (Ok o) (part_filled cells scope in_page (meaning x))
    → all_filled cells scope in_page done (meanings (drop i xs)) ≡ all_filled cells scope in_page (done ++ unwrap_or o (lit (meaning x)) ∷ []) (meanings (drop (i + 1) xs))
item_added cells scope in_page done xs i x o h p g =
    let e = (part_given cells scope in_page (meaning x) o g).0 in
    rw (items_next xs i x h p, e) refl

pub item_counted : (cells : CellNames) (scope : List (List ℕ)) (in_page : Bool) (b : Bool) (xs : List Value) (i : ℕ) (x : Value) (o : Option Core)
    → i < length xs → x ≡ get_or xs i x → Gives (λ y. y) (Ok o) (part_filled cells scope in_page (meaning x))
    → (b && are_plain (meanings (drop i xs))) ≡ ((b && is_none o) && are_plain (meanings (drop (i + 1) xs)))
item_counted cells scope in_page true xs i x o h p g =
    let e = (part_given cells scope in_page (meaning x) o g).1 in
    rw (items_next xs i x h p, e) refl
item_counted cells scope in_page false xs i x o h p g = refl

ended : (b : Bool) (done : List Core) → unless_plain b (Ok done) ≡ Ok (if b then None else Some done)
ended true done = refl
ended false done = refl

pub item_stops : (cells : CellNames) (scope : List (List ℕ)) (in_page : Bool) (b : Bool) (done : List Core) (xs : List Value) (i : ℕ) (x : Value)
    → i < length xs → x ≡ get_or xs i x
    → all_filled cells scope in_page [] (meanings xs) ≡ all_filled cells scope in_page done (meanings (drop i xs))
    → are_plain (meanings xs) ≡ (b && are_plain (meanings (drop i xs)))
    → (z : Result (Option (Vec Core Global)) ReadFault) (d e : ReadFault) → z ≡ Err d → d ≡ e → Gives (λ y. y) (Err e) (part_filled cells scope in_page (meaning x))
    → Gives (option_map (λ v. v.items)) z (items_filled cells scope in_page (meanings xs))
item_stops cells scope in_page b done xs i x h p all plain z d Memory a q g = rw (a, q) tt
item_stops cells scope in_page b done xs i x h p all plain z d (Syntax k) a q g =
    let f = fault_given (is_plain (meaning x)) (filled cells scope in_page (meaning x)) k g in
    let next = items_next xs i x h p in
    let not_plain : are_plain (meanings xs) ≡ false = plain ∙ rw (next, f.1) (and-false b) in
    let err : all_filled cells scope in_page [] (meanings xs) ≡ Err k = all ∙ rw (next, f.0) refl in
    rw (a, q, not_plain, err) refl

pub items_end : (cells : CellNames) (scope : List (List ℕ)) (in_page : Bool) (b : Bool) (done : List Core) (xs : List Value) (i : ℕ) → length xs ≤ i
    → all_filled cells scope in_page [] (meanings xs) ≡ all_filled cells scope in_page done (meanings (drop i xs))
    → are_plain (meanings xs) ≡ (b && are_plain (meanings (drop i xs)))
    → items_filled cells scope in_page (meanings xs) ≡ Ok (if b && not (begins (codes "unquote-splicing") (meanings xs)) then None else Some done)
items_end cells scope in_page b done xs i h all plain =
    let none = drop_all i xs h in
    let trees : all_filled cells scope in_page [] (meanings xs) ≡ Ok done = all ∙ rw none refl in
    let same : are_plain (meanings xs) ≡ b = plain ∙ rw none (and-true b) in
    rw (same, trees) (ended (b && not (begins (codes "unquote-splicing") (meanings xs))) done)

pub items_given : (b m n : Bool) (done : List Core) (o : Option (List Core)) (r : Result (Option (List Core)) SyntaxKind)
    → r ≡ Ok (if b && not n then None else Some done) → m ≡ n → o ≡ (if b && not m then None else Some done) → r ≡ Ok o
items_given b m n done o r e f g = rw (e, g, f) refl
