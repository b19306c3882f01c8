-- What operations on lists give.
use Rattle.std.specs.Prelude.{ℤ, pos, negsuc, ◌||◌, Bool, true, false, List, [], ◌∷◌, ◌++◌, Option, Some, None, Result, Ok, Err, length, reverse, slice_get, nat_lt, if◌then◌else◌}
use Rattle.script_value.specs.Val.{Val, number, list, no_vals, val, vals_of, items_of, depth}
use Rattle.script_value.specs.declared.outcome.Fault.{Fault}
use Rattle.script_value.specs.declared.outcome.Fault.TheVariants.{WrongType, Bounds, Deep}
use Rattle.prim_spec.specs.Numbers.{in_range}

-- a value, unless it nests deeper than 200
abbrev pub within_depth : Val → Result Val Fault
within_depth v = if nat_lt 200 (depth v) then Err Deep else Ok v

-- what `list` gives: the list of its operands, or a fault where it would nest too deep
abbrev pub list_of : List Val → Result Val Fault
list_of vs = within_depth (list (vals_of vs))

-- a value in front of a list
abbrev pub cons : List Val → Result Val Fault
cons (v ∷ list vs ∷ []) = within_depth (list (val v vs))
cons _ = Err WrongType

-- the first item of a list
abbrev pub first : List Val → Result Val Fault
first (list no_vals ∷ []) = Err Bounds
first (list (val v vs) ∷ []) = within_depth v
first _ = Err WrongType

-- all items of a list but the first
abbrev pub rest : List Val → Result Val Fault
rest (list no_vals ∷ []) = Err Bounds
rest (list (val v vs) ∷ []) = within_depth (list vs)
rest _ = Err WrongType

-- whether each of these values is a list
abbrev pub are_lists : List Val → Bool
are_lists [] = true
are_lists (list items ∷ vs) = are_lists vs
are_lists _ = false

-- the items of a list; none of any other value
abbrev pub items_in : Val → List Val
items_in (list vs) = items_of vs
items_in _ = []

-- the items of lists, in order
abbrev pub joined : List Val → List Val
joined [] = []
joined (v ∷ vs) = items_in v ++ joined vs

-- whether one of these values nests deeper than 200
abbrev pub is_any_too_deep : List Val → Bool
is_any_too_deep [] = false
is_any_too_deep (v ∷ vs) = nat_lt 200 (depth v) || is_any_too_deep vs

-- what `append` gives: one list of the items of all its operands, or a fault
abbrev pub append : List Val → Result Val Fault
append vs = if are_lists vs then list_of (joined vs) else Err WrongType

-- how many items a list has
abbrev pub length_of : List Val → Result Val Fault
length_of (list vs ∷ []) = in_range (pos (length (items_of vs)))
length_of _ = Err WrongType

-- the list from its last item to its first
abbrev pub reversed : List Val → Result Val Fault
reversed (list vs ∷ []) = list_of (reverse (items_of vs))
reversed _ = Err WrongType

-- an item that an operation looked for, or the fault that none stands there
abbrev pub found : Option Val → Result Val Fault
found None = Err Bounds
found (Some v) = within_depth v

-- the item of a place, the first being 0
abbrev pub item_at : List Val → ℤ → Result Val Fault
item_at vs (pos n) = found (slice_get vs n)
item_at vs (negsuc n) = Err Bounds

-- what `list-ref` gives: the item of this number, from 0 on, or a fault
abbrev pub item : List Val → Result Val Fault
item (list vs ∷ number n ∷ []) = item_at (items_of vs) n
item _ = Err WrongType
