-- Parts of data.
use Rattle.core_syntax.specs.declared.faults.SyntaxKind.{SyntaxKind}
use Rattle.core_syntax.specs.declared.faults.SyntaxKind.TheVariants.{Shape}
use Rattle.core_syntax.specs.Names.{or_fault}
use Rattle.std.specs.Prelude.{ℕ, ◌+◌, ◌&&◌, Bool, true, false, List, [], ◌∷◌, Option, Some, None, Result, Err, codes, if◌then◌else◌}
use Rattle.std.specs.Str.{bytes_eq}
use Rattle.script_value.specs.Val.{Val, Vals, symbol, list, no_vals, val}

-- how many items a list has
abbrev pub count_of : Vals → ℕ
count_of no_vals = 0
count_of (val v vs) = count_of vs + 1

-- whether a list has no item
abbrev pub is_empty : Vals → Bool
is_empty no_vals = true
is_empty (val v vs) = false

-- whether this is the symbol of these characters
abbrev pub is_word : List ℕ → Val → Bool
is_word word (symbol s) = bytes_eq s word
is_word word _ = false

-- whether a list begins with the symbol of these characters
abbrev pub begins : List ℕ → Vals → Bool
begins word no_vals = false
begins word (val v vs) = is_word word v

-- whether a value is a list with this word at its head
abbrev pub is_headed : List ℕ → Val → Bool
is_headed word (list vs) = begins word vs
is_headed word _ = false

-- goes on with what there is, or has nothing
abbrev pub on : {A B : Type 0} → Option A → (A → Option B) → Option B
on None f = None
on (Some x) f = f x

-- the bytes of a symbol; none of another value
abbrev pub symbol_in : Val → Option (List ℕ)
symbol_in (symbol x) = Some x
symbol_in _ = None

-- the name of a binding `(name expression)`
abbrev pub bound_name : Val → Option (List ℕ)
bound_name (list (val x (val e no_vals))) = symbol_in x
bound_name _ = None

-- the names of bindings, the last first, in front of others
abbrev pub names_of : Vals → List (List ℕ) → Option (List (List ℕ))
names_of no_vals names = Some names
names_of (val v vs) names = on (bound_name v) (λ x. names_of vs (x ∷ names))

-- the name of the one binding of a list
abbrev pub single_name : Vals → Option (List (List ℕ))
single_name (val v no_vals) = on (bound_name v) (λ x. Some (x ∷ []))
single_name _ = None

-- the one parameter `(u)` of a function
abbrev pub parameter : Val → Option (List (List ℕ))
parameter (list (val u no_vals)) = on (symbol_in u) (λ x. Some (x ∷ []))
parameter _ = None

-- the names in front of a body, which has one expression or more, or the fault
abbrev pub names_before : Vals → Option (List (List ℕ)) → Result (List (List ℕ)) SyntaxKind
names_before no_vals names = Err Shape
names_before (val b bs) names = or_fault Shape names

-- whether a value is a clause of a `cond`: a list of a test and a body
abbrev pub is_clause : Val → Bool
is_clause (list (val t (val b bs))) = true
is_clause _ = false

-- whether each of these values is a clause of a `cond`
abbrev pub are_clauses : Vals → Bool
are_clauses no_vals = true
are_clauses (val v vs) = is_clause v && are_clauses vs

-- whether the last clause of a `cond` is headed by `else`
abbrev pub ends_in_else : Vals → Bool
ends_in_else no_vals = false
ends_in_else (val v vs) = if is_empty vs then is_headed (codes "else") v else ends_in_else vs
