-- Rows of the table on texts, symbols and bindings, computed.
use Rattle.std.specs.Prelude.{◌≡◌, ◌^◌, ◌-◌, pos, negsuc, true, false, [], ◌∷◌, Ok, Err, codes, refl}
use Rattle.std.specs.Char.{encode_utf8}
use Rattle.std.specs.Fmt.{digits}
use Rattle.std.specs.Str.{chars, encode_utf8_all}
use Rattle.script_value.specs.Val.{Val, number, truth, text, symbol, list, no_vals, vals_of}
use Rattle.script_value.specs.declared.outcome.Op.TheVariants as op
use Rattle.script_value.specs.declared.outcome.Fault.TheVariants.{WrongType, Binding}
use Rattle.prim_spec.specs.Table.{value_of}

-- the greatest number of 64 bits with a sign
abbrev greatest : Val
greatest = number (pos (2 ^ 63 - 1))

-- the least number of 64 bits with a sign
abbrev least : Val
least = number (negsuc (2 ^ 63 - 1))

-- the answer of a form with three fields, of which two have one name
abbrev form : Val
form = list (vals_of (list (vals_of (symbol (codes "m") ∷ text (codes "3") ∷ [])) ∷ list (vals_of (symbol (codes "n") ∷ text (codes "4") ∷ [])) ∷ list (vals_of (symbol (codes "n") ∷ text (codes "5") ∷ [])) ∷ []))

-- `string-append` joins texts
pub joined_texts : value_of op.StringAppend (text (codes "ab") ∷ text [] ∷ text (codes "c") ∷ []) ≡ Ok (text (codes "abc"))
joined_texts = refl

-- `string-append` of nothing is the empty text
pub no_texts : value_of op.StringAppend [] ≡ Ok (text [])
no_texts = refl

-- `string-append` with a symbol is the fault of a wrong type
pub joined_with_symbol : value_of op.StringAppend (text (codes "ab") ∷ symbol (codes "c") ∷ []) ≡ Err WrongType
joined_with_symbol = refl

-- `string-length` of the empty text is 0
pub length_of_empty_text : value_of op.StringLength (text [] ∷ []) ≡ Ok (number (pos 0))
unfolding chars
length_of_empty_text = refl

-- `string-length` counts three letters
pub length_of_text : value_of op.StringLength (text (codes "abc") ∷ []) ≡ Ok (number (pos 3))
unfolding chars
length_of_text = refl

-- characters are counted, and not bytes: of 1, 2, 3 and 4 bytes
pub length_of_wide_text : value_of op.StringLength (text (encode_utf8_all (codes "aéท😀")) ∷ []) ≡ Ok (number (pos 4))
unfolding chars encode_utf8
length_of_wide_text = refl

-- `string-length` of a symbol is the fault of a wrong type
pub length_of_symbol : value_of op.StringLength (symbol (codes "abc") ∷ []) ≡ Err WrongType
length_of_symbol = refl

-- `string=?` holds of two texts with the same bytes
pub equal_texts : value_of op.StringEqual (text (codes "a") ∷ text (codes "a") ∷ []) ≡ Ok (truth true)
equal_texts = refl

-- `string=?` does not hold of a text and a longer one
pub unequal_texts : value_of op.StringEqual (text (codes "a") ∷ text (codes "ab") ∷ []) ≡ Ok (truth false)
unequal_texts = refl

-- `string=?` of a symbol is the fault of a wrong type
pub equal_of_symbol : value_of op.StringEqual (symbol (codes "a") ∷ text (codes "a") ∷ []) ≡ Err WrongType
equal_of_symbol = refl

-- `string=?` with a symbol is the fault of a wrong type
pub equal_with_symbol : value_of op.StringEqual (text (codes "a") ∷ symbol (codes "a") ∷ []) ≡ Err WrongType
equal_with_symbol = refl

-- `number->string` of 0 is one digit
pub text_of_zero : value_of op.NumberToString (number (pos 0) ∷ []) ≡ Ok (text (codes "0"))
unfolding digits
text_of_zero = refl

-- `number->string` of a negative number has a minus
pub text_of_minus : value_of op.NumberToString (number (negsuc 41) ∷ []) ≡ Ok (text (codes "-42"))
unfolding digits
text_of_minus = refl

-- `number->string` gives the digits of the greatest number
pub text_of_greatest : value_of op.NumberToString (greatest ∷ []) ≡ Ok (text (codes "9223372036854775807"))
unfolding digits
text_of_greatest = refl

-- `number->string` gives the digits of the least number
pub text_of_least : value_of op.NumberToString (least ∷ []) ≡ Ok (text (codes "-9223372036854775808"))
unfolding digits
text_of_least = refl

-- `number->string` of a text is the fault of a wrong type
pub text_of_text : value_of op.NumberToString (text (codes "5") ∷ []) ≡ Err WrongType
text_of_text = refl

-- `string->number` of a number is the fault of a wrong type
pub number_of_number : value_of op.StringToNumber (number (pos 5) ∷ []) ≡ Err WrongType
number_of_number = refl

-- `string->number` takes a plus
pub number_of_plus : value_of op.StringToNumber (text (codes "+5") ∷ []) ≡ Ok (number (pos 5))
number_of_plus = refl

-- the ends of the range of 64 bits with a sign, and the numbers past them
pub number_of_greatest : value_of op.StringToNumber (text (codes "9223372036854775807") ∷ []) ≡ Ok greatest
number_of_greatest = refl

-- `string->number` of a number past the greatest is false
pub number_of_past_greatest : value_of op.StringToNumber (text (codes "9223372036854775808") ∷ []) ≡ Ok (truth false)
number_of_past_greatest = refl

-- `string->number` gives the least number
pub number_of_least : value_of op.StringToNumber (text (codes "-9223372036854775808") ∷ []) ≡ Ok least
number_of_least = refl

-- `string->number` of a number past the least is false
pub number_of_past_least : value_of op.StringToNumber (text (codes "-9223372036854775809") ∷ []) ≡ Ok (truth false)
number_of_past_least = refl

-- `string->number` of a lone sign is false
pub number_of_sign : value_of op.StringToNumber (text (codes "-") ∷ []) ≡ Ok (truth false)
number_of_sign = refl

-- `string->number` of the empty text is false
pub number_of_empty_text : value_of op.StringToNumber (text [] ∷ []) ≡ Ok (truth false)
number_of_empty_text = refl

-- `string->number` of a text with a letter is false
pub number_of_letters : value_of op.StringToNumber (text (codes "4x") ∷ []) ≡ Ok (truth false)
number_of_letters = refl

-- `symbol->string` gives the bytes of a symbol as a text
pub text_of_symbol : value_of op.SymbolToString (symbol (codes "a") ∷ []) ≡ Ok (text (codes "a"))
text_of_symbol = refl

-- `symbol->string` of a text is the fault of a wrong type
pub symbol_of_text_as_text : value_of op.SymbolToString (text (codes "a") ∷ []) ≡ Err WrongType
symbol_of_text_as_text = refl

-- a symbol may have any characters of a text
pub symbol_of_text : value_of op.StringToSymbol (text (codes "(") ∷ []) ≡ Ok (symbol (codes "("))
symbol_of_text = refl

-- `string->symbol` of a symbol is the fault of a wrong type
pub symbol_of_symbol : value_of op.StringToSymbol (symbol (codes "a") ∷ []) ≡ Err WrongType
symbol_of_symbol = refl

-- the bindings of a form with the fields m, n, and n again
pub one_binding : value_of op.ExtractBindingSingle (symbol (codes "m") ∷ form ∷ []) ≡ Ok (text (codes "3"))
one_binding = refl

-- `extract-binding/single` of a key that two fields have is a fault
pub two_bindings : value_of op.ExtractBindingSingle (symbol (codes "n") ∷ form ∷ []) ≡ Err Binding
two_bindings = refl

-- `extract-binding/single` of a key that no field has is a fault
pub unbound_key : value_of op.ExtractBindingSingle (symbol (codes "x") ∷ form ∷ []) ≡ Err Binding
unbound_key = refl

-- a key that is a text is the fault of a wrong type
pub key_that_is_text : value_of op.ExtractBindingSingle (text (codes "m") ∷ form ∷ []) ≡ Err WrongType
key_that_is_text = refl

-- a list of what are no bindings is the fault of a wrong type
pub no_bindings : value_of op.ExtractBindingSingle (symbol (codes "m") ∷ list (vals_of (number (pos 1) ∷ [])) ∷ []) ≡ Err WrongType
no_bindings = refl

-- a text in place of bindings is the fault of a wrong type
pub bindings_that_are_text : value_of op.ExtractBindingSingle (symbol (codes "m") ∷ text (codes "m") ∷ []) ≡ Err WrongType
bindings_that_are_text = refl

-- a binding of three values is the fault of a wrong type
pub binding_of_three : value_of op.ExtractBindingSingle (symbol (codes "m") ∷ list (vals_of (list (vals_of (symbol (codes "m") ∷ text (codes "3") ∷ text (codes "3") ∷ [])) ∷ [])) ∷ [])
    ≡ Err WrongType
binding_of_three = refl

-- a binding whose value is a number is the fault of a wrong type
pub binding_of_number : value_of op.ExtractBindingSingle (symbol (codes "m") ∷ list (vals_of (list (vals_of (symbol (codes "m") ∷ text (codes "3") ∷ [])) ∷ list (vals_of (symbol (codes "n") ∷ number (pos 4) ∷ [])) ∷ [])) ∷ [])
    ≡ Err WrongType
binding_of_number = refl

-- `extract-bindings` gives the texts of all fields of a key, in their order
pub all_texts : value_of op.ExtractBindings (symbol (codes "n") ∷ form ∷ [])
    ≡ Ok (list (vals_of (text (codes "4") ∷ text (codes "5") ∷ [])))
all_texts = refl

-- `extract-bindings` of a key that no field has is the empty list
pub no_text : value_of op.ExtractBindings (symbol (codes "x") ∷ form ∷ []) ≡ Ok (list no_vals)
no_text = refl

-- `extract-bindings` of a text in place of a key is the fault of a wrong type
pub all_texts_of_text : value_of op.ExtractBindings (text (codes "n") ∷ form ∷ []) ≡ Err WrongType
all_texts_of_text = refl

-- `extract-bindings` of a list of no bindings is the fault of a wrong type
pub all_texts_of_no_bindings : value_of op.ExtractBindings (symbol (codes "n") ∷ list (vals_of (symbol (codes "n") ∷ [])) ∷ [])
    ≡ Err WrongType
all_texts_of_no_bindings = refl

-- `exists-binding?` holds of a key that a field has
pub exists : value_of op.ExistsBinding (symbol (codes "m") ∷ form ∷ []) ≡ Ok (truth true)
exists = refl

-- `exists-binding?` does not hold of a key that no field has
pub exists_not : value_of op.ExistsBinding (symbol (codes "x") ∷ form ∷ []) ≡ Ok (truth false)
exists_not = refl

-- `exists-binding?` of a text in place of a key is the fault of a wrong type
pub exists_of_text : value_of op.ExistsBinding (text (codes "m") ∷ form ∷ []) ≡ Err WrongType
exists_of_text = refl

-- `exists-binding?` among values that are not all bindings is the fault of a wrong type
pub exists_among_no_bindings : value_of op.ExistsBinding (symbol (codes "m") ∷ list (vals_of (list (vals_of (symbol (codes "m") ∷ text (codes "3") ∷ [])) ∷ list no_vals ∷ [])) ∷ [])
    ≡ Err WrongType
exists_among_no_bindings = refl
