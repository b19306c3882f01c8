-- Rows of the table on numbers, tests and kinds, computed.
use Rattle.std.specs.Prelude.{◌≡◌, ◌^◌, ◌-◌, pos, negsuc, Bool, true, false, [], ◌∷◌, Ok, Err, codes, refl}
use Rattle.script_value.specs.Val.{Val, number, truth, text, symbol, list, no_vals, vals_of}
use Rattle.script_value.specs.declared.outcome.Op.TheVariants as op
use Rattle.script_value.specs.declared.outcome.Fault.TheVariants.{WrongType, Overflow, Zero}
use Rattle.prim_spec.specs.Table.{value_of}

-- the greatest number of 64 bits with a sign
abbrev greatest : Val
greatest = number (pos (2 ^ 63 - 1))

-- the least number of 64 bits with a sign
abbrev least : Val
least = number (negsuc (2 ^ 63 - 1))

-- `+` adds two numbers
pub sum_of_two : value_of op.Add (number (pos 3) ∷ number (pos 4) ∷ []) ≡ Ok (number (pos 7))
sum_of_two = refl

-- `+` of nothing is 0
pub sum_of_none : value_of op.Add [] ≡ Ok (number (pos 0))
sum_of_none = refl

-- the greatest number and 1, and then -1: the partial sum is out of range
pub sum_too_great : value_of op.Add (greatest ∷ number (pos 1) ∷ number (negsuc 0) ∷ []) ≡ Err Overflow
sum_too_great = refl

-- the least number and -1, and then 1: the partial sum is out of range
pub sum_too_small : value_of op.Add (least ∷ number (negsuc 0) ∷ number (pos 1) ∷ []) ≡ Err Overflow
sum_too_small = refl

-- a text among numbers comes before an overflow
pub sum_of_text : value_of op.Add (greatest ∷ number (pos 1) ∷ text [] ∷ []) ≡ Err WrongType
sum_of_text = refl

-- `*` multiplies three numbers
pub product_of_three : value_of op.Multiply (number (pos 3) ∷ number (negsuc 3) ∷ number (pos 5) ∷ []) ≡ Ok (number (negsuc 59))
product_of_three = refl

-- `*` of nothing is 1
pub product_of_none : value_of op.Multiply [] ≡ Ok (number (pos 1))
product_of_none = refl

-- the partial product is out of range, though 0 follows
pub product_too_great : value_of op.Multiply (greatest ∷ number (pos 2) ∷ number (pos 0) ∷ []) ≡ Err Overflow
product_too_great = refl

-- the least number times -1 is out of range
pub product_too_small : value_of op.Multiply (least ∷ number (negsuc 0) ∷ []) ≡ Err Overflow
product_too_small = refl

-- the least number times 1 is in range
pub greatest_product : value_of op.Multiply (least ∷ number (pos 1) ∷ []) ≡ Ok least
greatest_product = refl

-- a symbol among numbers comes before an overflow
pub product_of_symbol : value_of op.Multiply (greatest ∷ number (pos 2) ∷ symbol (codes "a") ∷ []) ≡ Err WrongType
product_of_symbol = refl

-- `-` of one number is that number with the other sign
pub negated : value_of op.Subtract (number (pos 5) ∷ []) ≡ Ok (number (negsuc 4))
negated = refl

-- the greatest number with the other sign is in range
pub negated_greatest : value_of op.Subtract (greatest ∷ []) ≡ Ok (number (negsuc 9223372036854775806))
negated_greatest = refl

-- the least number with the other sign is out of range
pub negated_least : value_of op.Subtract (least ∷ []) ≡ Err Overflow
negated_least = refl

-- from left to right: 10 - 3 - 4
pub difference_of_three : value_of op.Subtract (number (pos 10) ∷ number (pos 3) ∷ number (pos 4) ∷ []) ≡ Ok (number (pos 3))
difference_of_three = refl

-- the least number less 1, and then less -1: the partial difference is out of range
pub difference_too_small : value_of op.Subtract (least ∷ number (pos 1) ∷ number (negsuc 0) ∷ []) ≡ Err Overflow
difference_too_small = refl

-- the greatest number less -1, and then less 1: the partial difference is out of range
pub difference_too_great : value_of op.Subtract (greatest ∷ number (negsuc 0) ∷ number (pos 1) ∷ []) ≡ Err Overflow
difference_too_great = refl

-- `-` of a truth is the fault of a wrong type
pub difference_of_truth : value_of op.Subtract (truth true ∷ []) ≡ Err WrongType
difference_of_truth = refl

-- a truth among numbers comes before an overflow
pub difference_of_later_truth : value_of op.Subtract (least ∷ number (pos 1) ∷ truth true ∷ []) ≡ Err WrongType
difference_of_later_truth = refl

-- towards zero, whatever the signs
pub quotient_of_positive : value_of op.Quotient (number (pos 7) ∷ number (pos 2) ∷ []) ≡ Ok (number (pos 3))
quotient_of_positive = refl

-- the quotient of -7 and 2 is -3
pub quotient_of_negative : value_of op.Quotient (number (negsuc 6) ∷ number (pos 2) ∷ []) ≡ Ok (number (negsuc 2))
quotient_of_negative = refl

-- the quotient of 7 and -2 is -3
pub quotient_by_negative : value_of op.Quotient (number (pos 7) ∷ number (negsuc 1) ∷ []) ≡ Ok (number (negsuc 2))
quotient_by_negative = refl

-- the quotient of two negative numbers is positive
pub quotient_of_both_negative : value_of op.Quotient (number (negsuc 6) ∷ number (negsuc 1) ∷ []) ≡ Ok (number (pos 3))
quotient_of_both_negative = refl

-- a quotient by zero is a fault
pub quotient_by_zero : value_of op.Quotient (number (pos 7) ∷ number (pos 0) ∷ []) ≡ Err Zero
quotient_by_zero = refl

-- the quotient of the least number and -1 is out of range
pub quotient_of_least : value_of op.Quotient (least ∷ number (negsuc 0) ∷ []) ≡ Err Overflow
quotient_of_least = refl

-- the quotient of the least number and 1 is in range
pub quotient_by_one : value_of op.Quotient (least ∷ number (pos 1) ∷ []) ≡ Ok least
quotient_by_one = refl

-- a text that is divided comes before a zero divisor
pub quotient_of_text : value_of op.Quotient (text (codes "7") ∷ number (pos 0) ∷ []) ≡ Err WrongType
quotient_of_text = refl

-- a quotient by a text is the fault of a wrong type
pub quotient_by_text : value_of op.Quotient (number (pos 7) ∷ text (codes "0") ∷ []) ≡ Err WrongType
quotient_by_text = refl

-- a remainder has the sign of the dividend
pub remainder_of_positive : value_of op.Remainder (number (pos 7) ∷ number (negsuc 1) ∷ []) ≡ Ok (number (pos 1))
remainder_of_positive = refl

-- the remainder of -7 and 2 is -1
pub remainder_of_negative : value_of op.Remainder (number (negsuc 6) ∷ number (pos 2) ∷ []) ≡ Ok (number (negsuc 0))
remainder_of_negative = refl

-- a remainder by zero is a fault
pub remainder_by_zero : value_of op.Remainder (number (negsuc 6) ∷ number (pos 0) ∷ []) ≡ Err Zero
remainder_by_zero = refl

-- the remainder of the least number and -1 is 0, though the quotient is out of range
pub remainder_of_least : value_of op.Remainder (least ∷ number (negsuc 0) ∷ []) ≡ Ok (number (pos 0))
remainder_of_least = refl

-- a list that is divided comes before a zero divisor
pub remainder_of_list : value_of op.Remainder (list no_vals ∷ number (pos 0) ∷ []) ≡ Err WrongType
remainder_of_list = refl

-- a remainder by a list is the fault of a wrong type
pub remainder_by_list : value_of op.Remainder (number (pos 7) ∷ list no_vals ∷ []) ≡ Err WrongType
remainder_by_list = refl

-- `=` holds of a number and itself
pub equal_numbers : value_of op.Equal (number (negsuc 0) ∷ number (negsuc 0) ∷ []) ≡ Ok (truth true)
equal_numbers = refl

-- `=` does not hold of two numbers that differ
pub unequal_numbers : value_of op.Equal (least ∷ greatest ∷ []) ≡ Ok (truth false)
unequal_numbers = refl

-- `=` of a text is the fault of a wrong type
pub equal_of_text : value_of op.Equal (text (codes "1") ∷ number (pos 1) ∷ []) ≡ Err WrongType
equal_of_text = refl

-- `=` with a text is the fault of a wrong type
pub equal_with_text : value_of op.Equal (number (pos 1) ∷ text (codes "1") ∷ []) ≡ Err WrongType
equal_with_text = refl

-- `<` holds of the least number and the greatest
pub least_is_less : value_of op.Less (least ∷ greatest ∷ []) ≡ Ok (truth true)
least_is_less = refl

-- `<` does not hold of a number and itself
pub same_is_not_less : value_of op.Less (number (pos 3) ∷ number (pos 3) ∷ []) ≡ Ok (truth false)
same_is_not_less = refl

-- `<` of a text is the fault of a wrong type
pub less_of_text : value_of op.Less (text (codes "1") ∷ number (pos 2) ∷ []) ≡ Err WrongType
less_of_text = refl

-- `<` with a text is the fault of a wrong type
pub less_with_text : value_of op.Less (number (pos 1) ∷ text (codes "2") ∷ []) ≡ Err WrongType
less_with_text = refl

-- `>` holds of the greatest number and the least
pub greatest_is_greater : value_of op.Greater (greatest ∷ least ∷ []) ≡ Ok (truth true)
greatest_is_greater = refl

-- `>` does not hold of a number and itself
pub same_is_not_greater : value_of op.Greater (number (pos 3) ∷ number (pos 3) ∷ []) ≡ Ok (truth false)
same_is_not_greater = refl

-- `>` of a truth is the fault of a wrong type
pub greater_of_truth : value_of op.Greater (truth false ∷ number (pos 1) ∷ []) ≡ Err WrongType
greater_of_truth = refl

-- `<=` holds of a number and itself
pub same_is_at_most : value_of op.AtMost (number (pos 3) ∷ number (pos 3) ∷ []) ≡ Ok (truth true)
same_is_at_most = refl

-- `<=` does not hold of -1 and -2
pub greater_is_not_at_most : value_of op.AtMost (number (negsuc 0) ∷ number (negsuc 1) ∷ []) ≡ Ok (truth false)
greater_is_not_at_most = refl

-- `<=` with a symbol is the fault of a wrong type
pub at_most_of_symbol : value_of op.AtMost (number (pos 1) ∷ symbol (codes "a") ∷ []) ≡ Err WrongType
at_most_of_symbol = refl

-- `>=` holds of a number and itself
pub same_is_at_least : value_of op.AtLeast (number (negsuc 2) ∷ number (negsuc 2) ∷ []) ≡ Ok (truth true)
same_is_at_least = refl

-- `>=` does not hold of -2 and -1
pub less_is_not_at_least : value_of op.AtLeast (number (negsuc 1) ∷ number (negsuc 0) ∷ []) ≡ Ok (truth false)
less_is_not_at_least = refl

-- `>=` of a list is the fault of a wrong type
pub at_least_of_list : value_of op.AtLeast (list no_vals ∷ number (pos 1) ∷ []) ≡ Err WrongType
at_least_of_list = refl

-- only #f is false
pub not_of_false : value_of op.Not (truth false ∷ []) ≡ Ok (truth true)
not_of_false = refl

-- `not` of true is false
pub not_of_true : value_of op.Not (truth true ∷ []) ≡ Ok (truth false)
not_of_true = refl

-- `not` of 0 is false
pub not_of_zero : value_of op.Not (number (pos 0) ∷ []) ≡ Ok (truth false)
not_of_zero = refl

-- `not` of the empty list is false
pub not_of_empty_list : value_of op.Not (list no_vals ∷ []) ≡ Ok (truth false)
not_of_empty_list = refl

-- `(a "b" (1 #t))` or `(a "b" (1 #f))`
abbrev nested : Bool → Val
nested b = list (vals_of (symbol (codes "a") ∷ text (codes "b") ∷ list (vals_of (number (pos 1) ∷ truth b ∷ [])) ∷ []))

-- `equal?` holds of two lists with equal items, however deep
pub same_lists : value_of op.IsEqual (nested false ∷ nested false ∷ []) ≡ Ok (truth true)
same_lists = refl

-- `equal?` does not hold of two lists with one item that differs
pub lists_of_other_items : value_of op.IsEqual (nested false ∷ nested true ∷ []) ≡ Ok (truth false)
lists_of_other_items = refl

-- `equal?` does not hold of a list and a front of it
pub list_and_its_front : value_of op.IsEqual (list (vals_of (number (pos 1) ∷ number (pos 2) ∷ [])) ∷ list (vals_of (number (pos 1) ∷ [])) ∷ [])
    ≡ Ok (truth false)
list_and_its_front = refl

-- `equal?` does not hold of a front of a list and the list
pub front_and_its_list : value_of op.IsEqual (list (vals_of (number (pos 1) ∷ [])) ∷ list (vals_of (number (pos 1) ∷ number (pos 2) ∷ [])) ∷ [])
    ≡ Ok (truth false)
front_and_its_list = refl

-- `equal?` does not hold of a text and the symbol of the same bytes
pub text_and_symbol : value_of op.IsEqual (text (codes "a") ∷ symbol (codes "a") ∷ []) ≡ Ok (truth false)
text_and_symbol = refl

-- `equal?` does not hold of a number and its text
pub text_and_number : value_of op.IsEqual (text (codes "1") ∷ number (pos 1) ∷ []) ≡ Ok (truth false)
text_and_number = refl

-- `equal?` holds of two truths that are the same
pub same_truths : value_of op.IsEqual (truth false ∷ truth false ∷ []) ≡ Ok (truth true)
same_truths = refl

-- `number?` holds of a number
pub is_number_of_number : value_of op.IsNumber (least ∷ []) ≡ Ok (truth true)
is_number_of_number = refl

-- `number?` does not hold of a text that spells a number
pub is_number_of_text : value_of op.IsNumber (text (codes "1") ∷ []) ≡ Ok (truth false)
is_number_of_text = refl

-- `string?` holds of the empty text
pub is_string_of_text : value_of op.IsString (text [] ∷ []) ≡ Ok (truth true)
is_string_of_text = refl

-- `string?` does not hold of a symbol
pub is_string_of_symbol : value_of op.IsString (symbol (codes "a") ∷ []) ≡ Ok (truth false)
is_string_of_symbol = refl

-- `symbol?` holds of a symbol
pub is_symbol_of_symbol : value_of op.IsSymbol (symbol (codes "a") ∷ []) ≡ Ok (truth true)
is_symbol_of_symbol = refl

-- `symbol?` does not hold of a text
pub is_symbol_of_text : value_of op.IsSymbol (text (codes "a") ∷ []) ≡ Ok (truth false)
is_symbol_of_text = refl

-- `boolean?` holds of false
pub is_boolean_of_false : value_of op.IsBoolean (truth false ∷ []) ≡ Ok (truth true)
is_boolean_of_false = refl

-- `boolean?` does not hold of the empty list
pub is_boolean_of_list : value_of op.IsBoolean (list no_vals ∷ []) ≡ Ok (truth false)
is_boolean_of_list = refl

-- `list?` holds of the empty list
pub is_list_of_empty_list : value_of op.IsList (list no_vals ∷ []) ≡ Ok (truth true)
is_list_of_empty_list = refl

-- `list?` holds of a list with an item
pub is_list_of_list : value_of op.IsList (list (vals_of (number (pos 1) ∷ [])) ∷ []) ≡ Ok (truth true)
is_list_of_list = refl

-- `list?` does not hold of a text
pub is_list_of_text : value_of op.IsList (text [] ∷ []) ≡ Ok (truth false)
is_list_of_text = refl

-- `null?` holds of the empty list
pub is_null_of_empty_list : value_of op.IsNull (list no_vals ∷ []) ≡ Ok (truth true)
is_null_of_empty_list = refl

-- `null?` does not hold of a list with an item
pub is_null_of_list : value_of op.IsNull (list (vals_of (list no_vals ∷ [])) ∷ []) ≡ Ok (truth false)
is_null_of_list = refl

-- `null?` does not hold of false
pub is_null_of_false : value_of op.IsNull (truth false ∷ []) ≡ Ok (truth false)
is_null_of_false = refl
