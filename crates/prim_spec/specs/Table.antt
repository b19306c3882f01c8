-- The table of operations: the names that spell them, how many operands each takes, and a value or a fault, one row an operation.
use Rattle.std.specs.Prelude.{ℕ, ◌==◌, pos, int_lt, int_le, Bool, true, false, List, [], ◌∷◌, Option, Some, None, Result, Ok, Err, codes, nat_lt, if◌then◌else◌}
use Rattle.std.specs.Str.{bytes_eq}
use Rattle.std.specs.Option.{option_or}
use Rattle.std.specs.Ordering.{int_eq}
use Rattle.script_value.specs.Val.{Val, number, truth, text, symbol, list, no_vals}
use Rattle.script_value.specs.declared.outcome.Op.{Op}
use Rattle.script_value.specs.declared.outcome.Op.TheVariants as op
use Rattle.script_value.specs.declared.outcome.Fault.{Fault}
use Rattle.script_value.specs.declared.outcome.Fault.TheVariants.{WrongType}
use Rattle.prim_spec.specs.Same.{same}
use Rattle.prim_spec.specs.Numbers as numbers
use Rattle.prim_spec.specs.Lists as lists
use Rattle.prim_spec.specs.Texts as texts
use Rattle.prim_spec.specs.Bindings as bindings

-- the operations on numbers, by their names
unfoldable pub number_operation_of : List ℕ → Option Op
number_operation_of s =
    if bytes_eq s (codes "+") then Some op.Add else
    if bytes_eq s (codes "*") then Some op.Multiply else
    if bytes_eq s (codes "-") then Some op.Subtract else
    if bytes_eq s (codes "quotient") then Some op.Quotient else
    if bytes_eq s (codes "remainder") then Some op.Remainder else
    if bytes_eq s (codes "=") then Some op.Equal else
    if bytes_eq s (codes "<") then Some op.Less else
    if bytes_eq s (codes ">") then Some op.Greater else
    if bytes_eq s (codes "<=") then Some op.AtMost else
    if bytes_eq s (codes ">=") then Some op.AtLeast else None

-- the tests of truth, of sameness and of what a value is, by their names
unfoldable pub test_of : List ℕ → Option Op
test_of s =
    if bytes_eq s (codes "not") then Some op.Not else
    if bytes_eq s (codes "equal?") then Some op.IsEqual else
    if bytes_eq s (codes "number?") then Some op.IsNumber else
    if bytes_eq s (codes "string?") then Some op.IsString else
    if bytes_eq s (codes "symbol?") then Some op.IsSymbol else
    if bytes_eq s (codes "boolean?") then Some op.IsBoolean else
    if bytes_eq s (codes "list?") then Some op.IsList else
    if bytes_eq s (codes "null?") then Some op.IsNull else None

-- the operations on lists, by their names
unfoldable pub list_operation_of : List ℕ → Option Op
list_operation_of s =
    if bytes_eq s (codes "list") then Some op.List else
    if bytes_eq s (codes "cons") then Some op.Cons else
    if bytes_eq s (codes "car") then Some op.Car else
    if bytes_eq s (codes "cdr") then Some op.Cdr else
    if bytes_eq s (codes "append") then Some op.Append else
    if bytes_eq s (codes "length") then Some op.Length else
    if bytes_eq s (codes "reverse") then Some op.Reverse else
    if bytes_eq s (codes "list-ref") then Some op.ListRef else None

-- the operations on texts and answers, by their names
unfoldable pub text_operation_of : List ℕ → Option Op
text_operation_of s =
    if bytes_eq s (codes "string-append") then Some op.StringAppend else
    if bytes_eq s (codes "string-length") then Some op.StringLength else
    if bytes_eq s (codes "string=?") then Some op.StringEqual else
    if bytes_eq s (codes "number->string") then Some op.NumberToString else
    if bytes_eq s (codes "string->number") then Some op.StringToNumber else
    if bytes_eq s (codes "symbol->string") then Some op.SymbolToString else
    if bytes_eq s (codes "string->symbol") then Some op.StringToSymbol else
    if bytes_eq s (codes "extract-binding/single") then Some op.ExtractBindingSingle else
    if bytes_eq s (codes "extract-bindings") then Some op.ExtractBindings else
    if bytes_eq s (codes "exists-binding?") then Some op.ExistsBinding else None

-- the operation that a name spells
abbrev pub spelled : List ℕ → Option Op
spelled s = option_or (option_or (number_operation_of s) (test_of s)) (option_or (list_operation_of s) (text_operation_of s))

-- an operation takes this number of operands
abbrev pub takes : Op → ℕ → Bool
takes op.Add n = true
takes op.Multiply n = true
takes op.Subtract n = nat_lt 0 n
takes op.Quotient n = n == 2
takes op.Remainder n = n == 2
takes op.Equal n = n == 2
takes op.Less n = n == 2
takes op.Greater n = n == 2
takes op.AtMost n = n == 2
takes op.AtLeast n = n == 2
takes op.Not n = n == 1
takes op.IsEqual n = n == 2
takes op.IsNumber n = n == 1
takes op.IsString n = n == 1
takes op.IsSymbol n = n == 1
takes op.IsBoolean n = n == 1
takes op.IsList n = n == 1
takes op.IsNull n = n == 1
takes op.List n = true
takes op.Cons n = n == 2
takes op.Car n = n == 1
takes op.Cdr n = n == 1
takes op.Append n = true
takes op.Length n = n == 1
takes op.Reverse n = n == 1
takes op.ListRef n = n == 2
takes op.StringAppend n = true
takes op.StringLength n = n == 1
takes op.StringEqual n = n == 2
takes op.NumberToString n = n == 1
takes op.StringToNumber n = n == 1
takes op.SymbolToString n = n == 1
takes op.StringToSymbol n = n == 1
takes op.ExtractBindingSingle n = n == 2
takes op.ExtractBindings n = n == 2
takes op.ExistsBinding n = n == 2

-- #f, and nothing else, is false
abbrev pub is_false : Val → Bool
is_false (truth false) = true
is_false _ = false

-- whether a value is a number
abbrev pub is_number : Val → Bool
is_number (number n) = true
is_number _ = false

-- whether a value is a text
abbrev pub is_text : Val → Bool
is_text (text t) = true
is_text _ = false

-- whether a value is a symbol
abbrev pub is_symbol : Val → Bool
is_symbol (symbol s) = true
is_symbol _ = false

-- whether a value is a truth
abbrev pub is_truth : Val → Bool
is_truth (truth b) = true
is_truth _ = false

-- whether a value is a list
abbrev pub is_list : Val → Bool
is_list (list vs) = true
is_list _ = false

-- whether a value is the list without items
abbrev pub is_empty_list : Val → Bool
is_empty_list (list no_vals) = true
is_empty_list _ = false

-- the only operand, where there is just one
abbrev pub one : List Val → Option Val
one (v ∷ []) = Some v
one _ = None

-- both operands, where there are just two
abbrev pub two : List Val → Option (Val × Val)
two (v ∷ w ∷ []) = Some (v, w)
two _ = None

-- one value of any kind, and whether the test holds of it
abbrev pub asks : (Val → Bool) → List Val → Result Val Fault
asks test (v ∷ []) = Ok (truth (test v))
asks test _ = Err WrongType

-- two values of any kind, and whether they are the same
abbrev pub are_equal : List Val → Result Val Fault
are_equal (v ∷ w ∷ []) = Ok (truth (same v w))
are_equal _ = Err WrongType

-- what an operation gives for its operands
abbrev pub value_of : Op → List Val → Result Val Fault
value_of op.Add vs = if numbers.are_numbers vs then numbers.sum_from (pos 0) vs else Err WrongType
value_of op.Multiply vs = if numbers.are_numbers vs then numbers.product_from (pos 1) vs else Err WrongType
value_of op.Subtract vs = if numbers.are_numbers vs then numbers.difference vs else Err WrongType
value_of op.Quotient vs = numbers.of_two numbers.quotient_of (numbers.two_numbers vs)
value_of op.Remainder vs = numbers.of_two numbers.remainder_of (numbers.two_numbers vs)
value_of op.Equal vs = numbers.compares int_eq vs
value_of op.Less vs = numbers.compares int_lt vs
value_of op.Greater vs = numbers.compares (λ a b. int_lt b a) vs
value_of op.AtMost vs = numbers.compares int_le vs
value_of op.AtLeast vs = numbers.compares (λ a b. int_le b a) vs
value_of op.Not vs = asks is_false vs
value_of op.IsEqual vs = are_equal vs
value_of op.IsNumber vs = asks is_number vs
value_of op.IsString vs = asks is_text vs
value_of op.IsSymbol vs = asks is_symbol vs
value_of op.IsBoolean vs = asks is_truth vs
value_of op.IsList vs = asks is_list vs
value_of op.IsNull vs = asks is_empty_list vs
value_of op.List vs = lists.list_of vs
value_of op.Cons vs = lists.cons vs
value_of op.Car vs = lists.first vs
value_of op.Cdr vs = lists.rest vs
value_of op.Append vs = lists.append vs
value_of op.Length vs = lists.length_of vs
value_of op.Reverse vs = lists.reversed vs
value_of op.ListRef vs = lists.item vs
value_of op.StringAppend vs = if texts.are_texts vs then Ok (text (texts.joined vs)) else Err WrongType
value_of op.StringLength vs = texts.length_of vs
value_of op.StringEqual vs = texts.equal_texts vs
value_of op.NumberToString vs = texts.text_of_number vs
value_of op.StringToNumber vs = texts.number_of_text vs
value_of op.SymbolToString vs = texts.text_of_symbol vs
value_of op.StringToSymbol vs = texts.symbol_of_text vs
value_of op.ExtractBindingSingle vs = bindings.of_texts bindings.single vs
value_of op.ExtractBindings vs = bindings.of_texts bindings.all_texts vs
value_of op.ExistsBinding vs = bindings.of_texts bindings.any_text vs
