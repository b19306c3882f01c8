-- One clause of a `cond` after the other.
use Rattle.std.proofs.Common.{◌≡◌, ℕ, zero, suc, ◌+◌, ◌<◌, Bool, List, [], ◌∷◌, ◌++◌, length, map, drop, get_or, Result, Ok, Err, refl, sym, subst, arith}
use Rattle.script_value.specs.Val.{vals_of}
use Rattle.script_value.specs.Views.{meaning}
use Rattle.script_value.specs.declared.value.Value.{Value}
use Rattle.core_syntax.specs.declared.faults.SyntaxKind.{SyntaxKind}
use Rattle.core_syntax.specs.declared.faults.ReadFault.{ReadFault}
use Rattle.core_syntax.specs.declared.faults.ReadFault.TheVariants.{Memory, Syntax}
use Rattle.script_nodes.specs.Core.{Core, branch}
use Rattle.core_syntax.specs.Names.{◌>>=◌, CellNames}
use Rattle.core_syntax.specs.Forms.{choices, choice, choose, pair}
use Rattle.std.specs.Prelude.{Vec}
use Rattle.std.specs.declared.alloc.Global.{Global}
use Rattle.core_syntax.specs.declared.tree.Choice.{Choice}
use Rattle.core_syntax.specs.Trees.{pair_of}
use Rattle.core_syntax.specs.Gives.{Gives}

-- a clause that is not the last
pub choices_next : (cells : CellNames) (scope : List (List ℕ)) (in_page : Bool) (done : List (Core × Core)) (xs : List Value) (i : ℕ) (d : Value)
    → i < length xs → (i + 1 ≡ length xs → ⊥) → d ≡ get_or xs i d
    → choices cells scope in_page done (vals_of (map meaning (drop i xs)))
    ≡ choice cells scope in_page (meaning d) >>= (λ p. choices cells scope in_page (done ++ p ∷ []) (vals_of (map meaning (drop (i + 1) xs))))
choices_next cells scope in_page done [] i d l n e = absurd (omega arith)
choices_next cells scope in_page done (x ∷ []) zero d l n e = absurd (n refl)
choices_next cells scope in_page done (x ∷ (y ∷ xs)) zero d l n e = rw e refl
choices_next cells scope in_page done (x ∷ xs) (suc i) d l n e =
    let next : suc i + 1 ≡ suc (i + 1) = omega arith in
    rw next (choices_next cells scope in_page done xs i d (omega arith) (λ same. n (omega arith)) e)

-- a fault of a clause is the fault of all
pub clause_stops : (x : Result Core ReadFault) (d e : ReadFault) (r : Result (Core × Core) SyntaxKind) (f : Core × Core → Result Core SyntaxKind) (q : Result Core SyntaxKind)
    → x ≡ Err d → d ≡ e → Gives pair_of (Err e) r → q ≡ r >>= f → Gives (λ c. c) x q
clause_stops x d Memory r f q a b g h = rw (a, b) tt
clause_stops x d (Syntax k) r f q a b g h = rw (a, b, h, g) refl

pub gives_same : (x : Result Core ReadFault) (q r : Result Core SyntaxKind) → q ≡ r → Gives (λ c. c) x r → Gives (λ c. c) x q
gives_same x q r e h = subst (λ (p : Result Core SyntaxKind). Gives (λ c. c) x p) (sym e) h

-- a choice of two is one choice and what is taken otherwise
pub both_first : (r s q : Result Core SyntaxKind)
    → (r >>= (λ x. s >>= (λ y. q >>= (λ z. Ok (branch x y z))))) ≡ ((pair r s >>= (λ p. Ok (p ∷ []))) >>= (λ cs. q >>= (λ z. Ok (choose cs z))))
both_first (Ok x) (Ok y) q = refl
both_first (Ok x) (Err k) q = refl
both_first (Err k) s q = refl

-- a fault of a choice is the fault of all
pub both_stop : (x : Result Core ReadFault) (d e : ReadFault) (r : Result (List (Core × Core)) SyntaxKind) (f : List (Core × Core) → Result Core SyntaxKind) (q : Result Core SyntaxKind)
    → x ≡ Err d → d ≡ e → Gives (λ (v : Vec Choice Global). map pair_of v.items) (Err e) r → q ≡ r >>= f → Gives (λ c. c) x q
both_stop x d Memory r f q a b g h = rw (a, b) tt
both_stop x d (Syntax k) r f q a b g h = rw (a, b, h, g) refl
