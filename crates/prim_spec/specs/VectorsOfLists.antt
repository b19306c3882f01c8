-- Rows of the table on lists, computed.
use Rattle.std.specs.Prelude.{◌≡◌, ℕ, zero, suc, ◌^◌, ◌-◌, pos, negsuc, true, [], ◌∷◌, Ok, Err, codes, refl}
use Rattle.script_value.specs.Val.{Val, number, truth, text, symbol, list, no_vals, vals_of}
use Rattle.script_value.specs.declared.outcome.Op.TheVariants as op
use Rattle.script_value.specs.declared.outcome.Fault.TheVariants.{WrongType, Bounds, Deep}
use Rattle.prim_spec.specs.Table.{value_of}

-- the greatest number of the range of 64 bits with a sign
abbrev greatest : Val
greatest = number (pos (2 ^ 63 - 1))

-- a list in a list, one deeper than the number
abbrev lists : ℕ → Val
lists zero = list no_vals
lists (suc n) = list (vals_of (lists n ∷ []))

-- `list` of nothing is the empty list
pub list_of_none : value_of op.List [] ≡ Ok (list no_vals)
list_of_none = refl

-- `list` of two values is the list of them
pub list_of_two : value_of op.List (number (pos 1) ∷ text (codes "a") ∷ []) ≡ Ok (list (vals_of (number (pos 1) ∷ text (codes "a") ∷ [])))
list_of_two = refl

-- a list may be 200 deep, and no deeper
pub deepest_list : value_of op.List (lists 198 ∷ []) ≡ Ok (lists 199)
deepest_list = refl

-- a list that would be 201 deep is a fault
pub too_deep_list : value_of op.List (number (pos 1) ∷ lists 199 ∷ []) ≡ Err Deep
too_deep_list = refl

-- `cons` to the empty list makes a list of one item
pub cons_to_empty_list : value_of op.Cons (number (pos 1) ∷ list no_vals ∷ []) ≡ Ok (list (vals_of (number (pos 1) ∷ [])))
cons_to_empty_list = refl

-- `cons` puts a value before the items of a list
pub cons_to_list : value_of op.Cons (list no_vals ∷ list (vals_of (symbol (codes "a") ∷ symbol (codes "b") ∷ [])) ∷ [])
    ≡ Ok (list (vals_of (list no_vals ∷ symbol (codes "a") ∷ symbol (codes "b") ∷ [])))
cons_to_list = refl

-- `cons` to a text is the fault of a wrong type
pub cons_to_text : value_of op.Cons (number (pos 1) ∷ text (codes "a") ∷ []) ≡ Err WrongType
cons_to_text = refl

-- `cons` may make a list that is 200 deep
pub deepest_cons : value_of op.Cons (lists 198 ∷ list no_vals ∷ []) ≡ Ok (lists 199)
deepest_cons = refl

-- `cons` makes no list that is 201 deep
pub too_deep_cons : value_of op.Cons (lists 199 ∷ list no_vals ∷ []) ≡ Err Deep
too_deep_cons = refl

-- `cons` to a list that is too deep is a fault
pub cons_to_deep_list : value_of op.Cons (number (pos 1) ∷ lists 200 ∷ []) ≡ Err Deep
cons_to_deep_list = refl

-- `car` gives the first item of a list
pub car_of_list : value_of op.Car (list (vals_of (list (vals_of (number (pos 1) ∷ number (pos 2) ∷ [])) ∷ number (pos 3) ∷ [])) ∷ [])
    ≡ Ok (list (vals_of (number (pos 1) ∷ number (pos 2) ∷ [])))
car_of_list = refl

-- `car` of the empty list is a fault
pub car_of_empty_list : value_of op.Car (list no_vals ∷ []) ≡ Err Bounds
car_of_empty_list = refl

-- `car` of a number is the fault of a wrong type
pub car_of_number : value_of op.Car (number (pos 1) ∷ []) ≡ Err WrongType
car_of_number = refl

-- of a list that is too deep, the first item may not be
pub car_of_deep_list : value_of op.Car (lists 200 ∷ []) ≡ Ok (lists 199)
car_of_deep_list = refl

-- `car` gives no item that is too deep
pub too_deep_car : value_of op.Car (lists 201 ∷ []) ≡ Err Deep
too_deep_car = refl

-- `cdr` gives a list without its first item
pub cdr_of_list : value_of op.Cdr (list (vals_of (number (pos 1) ∷ list (vals_of (number (pos 2) ∷ [])) ∷ number (pos 3) ∷ [])) ∷ [])
    ≡ Ok (list (vals_of (list (vals_of (number (pos 2) ∷ [])) ∷ number (pos 3) ∷ [])))
cdr_of_list = refl

-- `cdr` of a list of one item is the empty list
pub cdr_of_one : value_of op.Cdr (list (vals_of (number (pos 1) ∷ [])) ∷ []) ≡ Ok (list no_vals)
cdr_of_one = refl

-- `cdr` of the empty list is a fault
pub cdr_of_empty_list : value_of op.Cdr (list no_vals ∷ []) ≡ Err Bounds
cdr_of_empty_list = refl

-- `cdr` of a symbol is the fault of a wrong type
pub cdr_of_symbol : value_of op.Cdr (symbol (codes "a") ∷ []) ≡ Err WrongType
cdr_of_symbol = refl

-- of a list that is too deep, what `cdr` gives may not be
pub cdr_of_deep_list : value_of op.Cdr (lists 200 ∷ []) ≡ Ok (list no_vals)
cdr_of_deep_list = refl

-- `cdr` gives no list that is too deep
pub too_deep_cdr : value_of op.Cdr (list (vals_of (number (pos 1) ∷ lists 199 ∷ [])) ∷ []) ≡ Err Deep
too_deep_cdr = refl

-- `append` of nothing is the empty list
pub append_of_none : value_of op.Append [] ≡ Ok (list no_vals)
append_of_none = refl

-- `append` joins the items of three lists, in their order
pub append_of_three : value_of op.Append (list (vals_of (number (pos 1) ∷ number (pos 2) ∷ [])) ∷ list no_vals ∷ list (vals_of (number (pos 3) ∷ [])) ∷ [])
    ≡ Ok (list (vals_of (number (pos 1) ∷ number (pos 2) ∷ number (pos 3) ∷ [])))
append_of_three = refl

-- only the last of Scheme's operands may be no list, and here none may
pub append_of_number : value_of op.Append (list (vals_of (number (pos 1) ∷ [])) ∷ number (pos 2) ∷ []) ≡ Err WrongType
append_of_number = refl

-- a wrong type among the operands of `append` comes before a depth
pub wrong_before_deep : value_of op.Append (lists 200 ∷ number (pos 2) ∷ []) ≡ Err WrongType
wrong_before_deep = refl

-- `append` may make a list that is 200 deep
pub deepest_append : value_of op.Append (list (vals_of (number (pos 1) ∷ [])) ∷ lists 199 ∷ [])
    ≡ Ok (list (vals_of (number (pos 1) ∷ lists 198 ∷ [])))
deepest_append = refl

-- `append` makes no list that is too deep
pub too_deep_append : value_of op.Append (list (vals_of (number (pos 1) ∷ [])) ∷ lists 200 ∷ []) ≡ Err Deep
too_deep_append = refl

-- `length` of the empty list is 0
pub length_of_empty_list : value_of op.Length (list no_vals ∷ []) ≡ Ok (number (pos 0))
length_of_empty_list = refl

-- `length` counts the items of a list, and not those in them
pub length_of_list : value_of op.Length (list (vals_of (number (pos 1) ∷ list (vals_of (number (pos 2) ∷ number (pos 3) ∷ [])) ∷ [])) ∷ [])
    ≡ Ok (number (pos 2))
length_of_list = refl

-- `length` of a text is the fault of a wrong type
pub length_of_text : value_of op.Length (text (codes "ab") ∷ []) ≡ Err WrongType
length_of_text = refl

-- `reverse` turns the order of a list, and not that of the lists in it
pub reverse_of_list : value_of op.Reverse (list (vals_of (number (pos 1) ∷ number (pos 2) ∷ list (vals_of (number (pos 3) ∷ number (pos 4) ∷ [])) ∷ [])) ∷ [])
    ≡ Ok (list (vals_of (list (vals_of (number (pos 3) ∷ number (pos 4) ∷ [])) ∷ number (pos 2) ∷ number (pos 1) ∷ [])))
reverse_of_list = refl

-- `reverse` of the empty list is the empty list
pub reverse_of_empty_list : value_of op.Reverse (list no_vals ∷ []) ≡ Ok (list no_vals)
reverse_of_empty_list = refl

-- `reverse` of a truth is the fault of a wrong type
pub reverse_of_truth : value_of op.Reverse (truth true ∷ []) ≡ Err WrongType
reverse_of_truth = refl

-- `reverse` gives no list that is too deep
pub too_deep_reverse : value_of op.Reverse (list (vals_of (number (pos 1) ∷ lists 199 ∷ [])) ∷ []) ≡ Err Deep
too_deep_reverse = refl

-- `list-ref` counts items from 0 on
pub first_item : value_of op.ListRef (list (vals_of (number (pos 7) ∷ number (pos 8) ∷ number (pos 9) ∷ [])) ∷ number (pos 0) ∷ [])
    ≡ Ok (number (pos 7))
first_item = refl

-- `list-ref` gives the last of three items at 2
pub last_item : value_of op.ListRef (list (vals_of (number (pos 7) ∷ number (pos 8) ∷ number (pos 9) ∷ [])) ∷ number (pos 2) ∷ [])
    ≡ Ok (number (pos 9))
last_item = refl

-- `list-ref` past the last item is a fault
pub item_past_end : value_of op.ListRef (list (vals_of (number (pos 7) ∷ number (pos 8) ∷ number (pos 9) ∷ [])) ∷ number (pos 3) ∷ [])
    ≡ Err Bounds
item_past_end = refl

-- `list-ref` at a negative number is a fault
pub item_before_start : value_of op.ListRef (list (vals_of (number (pos 7) ∷ number (pos 8) ∷ number (pos 9) ∷ [])) ∷ number (negsuc 0) ∷ [])
    ≡ Err Bounds
item_before_start = refl

-- `list-ref` of the empty list is a fault
pub item_of_empty_list : value_of op.ListRef (list no_vals ∷ number (pos 0) ∷ []) ≡ Err Bounds
item_of_empty_list = refl

-- `list-ref` at the greatest number is a fault
pub item_of_greatest_place : value_of op.ListRef (list (vals_of (number (pos 7) ∷ [])) ∷ greatest ∷ []) ≡ Err Bounds
item_of_greatest_place = refl

-- `list-ref` of a text is the fault of a wrong type
pub item_of_text : value_of op.ListRef (text (codes "abc") ∷ number (pos 0) ∷ []) ≡ Err WrongType
item_of_text = refl

-- `list-ref` at a text is the fault of a wrong type
pub item_of_text_place : value_of op.ListRef (list (vals_of (number (pos 7) ∷ [])) ∷ text (codes "0") ∷ []) ≡ Err WrongType
item_of_text_place = refl

-- `list-ref` may give an item that is 200 deep
pub deepest_item : value_of op.ListRef (list (vals_of (number (pos 1) ∷ lists 199 ∷ [])) ∷ number (pos 1) ∷ []) ≡ Ok (lists 199)
deepest_item = refl

-- `list-ref` gives no item that is too deep
pub too_deep_item : value_of op.ListRef (list (vals_of (number (pos 1) ∷ lists 200 ∷ [])) ∷ number (pos 1) ∷ []) ≡ Err Deep
too_deep_item = refl

-- of a list that is too deep, the item that `list-ref` gives may not be
pub item_of_deep_list : value_of op.ListRef (list (vals_of (number (pos 1) ∷ lists 200 ∷ [])) ∷ number (pos 0) ∷ []) ≡ Ok (number (pos 1))
item_of_deep_list = refl
