-- Worked rows.
use Rattle.std.specs.Prelude.{◌≡◌, [], ◌∷◌, ◌++◌, ◌-◌, ◌^◌, pos, negsuc, true, false, Some, None, codes, refl}
use lib.Utf8.{encode}
use Rattle.std.specs.Str.{is_utf8, chars}
use Rattle.script_value.specs.Val.{Val, number, truth, text, symbol, list, vals_of}
use Rattle.value_bytes.specs.Spelling.{value_bytes, values_bytes}
use Rattle.value_bytes.specs.Reading.{read_value, read_within}

-- a number is the byte 0 and eight bytes, the least first
one : value_bytes (number (pos 1)) ≡ 0 ∷ 1 ∷ 0 ∷ 0 ∷ 0 ∷ 0 ∷ 0 ∷ 0 ∷ 0 ∷ []
one = refl

-- a negative number is written in two's complement
minus_two : value_bytes (number (negsuc 1)) ≡ 0 ∷ 254 ∷ 255 ∷ 255 ∷ 255 ∷ 255 ∷ 255 ∷ 255 ∷ 255 ∷ []
minus_two = refl

-- the least number has all bits unset but its sign
least : value_bytes (number (negsuc (2 ^ 63 - 1))) ≡ 0 ∷ 0 ∷ 0 ∷ 0 ∷ 0 ∷ 0 ∷ 0 ∷ 0 ∷ 128 ∷ []
least = refl

-- true is the byte 2
yes : value_bytes (truth true) ≡ 2 ∷ []
yes = refl

-- false is the byte 1
no : value_bytes (truth false) ≡ 1 ∷ []
no = refl

-- "hi"
a_text : value_bytes (text (codes "hi")) ≡ 3 ∷ 2 ∷ 0 ∷ 0 ∷ 0 ∷ 104 ∷ 105 ∷ []
a_text = refl

-- a symbol is the byte 4, its length and its bytes
a_symbol : value_bytes (symbol (codes "n")) ≡ 4 ∷ 1 ∷ 0 ∷ 0 ∷ 0 ∷ 110 ∷ []
a_symbol = refl

-- (#f "hi")
abbrev pair : Val
pair = list (vals_of (truth false ∷ text (codes "hi") ∷ []))

-- a list is the byte 5, the count of its items, and each of them
a_list : value_bytes pair ≡ 5 ∷ 2 ∷ 0 ∷ 0 ∷ 0 ∷ 1 ∷ 3 ∷ 2 ∷ 0 ∷ 0 ∷ 0 ∷ 104 ∷ 105 ∷ []
a_list = refl

-- ((#f "hi") ())
a_nested_list : value_bytes (list (vals_of (pair ∷ list (vals_of []) ∷ [])))
    ≡ 5 ∷ 2 ∷ 0 ∷ 0 ∷ 0 ∷ 5 ∷ 2 ∷ 0 ∷ 0 ∷ 0 ∷ 1 ∷ 3 ∷ 2 ∷ 0 ∷ 0 ∷ 0 ∷ 104 ∷ 105 ∷ 5 ∷ 0 ∷ 0 ∷ 0 ∷ 0 ∷ []
a_nested_list = refl

-- a list that is no value itself has no byte for its kind
some_values : values_bytes (truth true ∷ truth false ∷ []) ≡ 2 ∷ 0 ∷ 0 ∷ 0 ∷ 2 ∷ 1 ∷ []
some_values = refl

-- a number is read off the front of bytes
a_number_is_read : read_value (0 ∷ 254 ∷ 255 ∷ 255 ∷ 255 ∷ 255 ∷ 255 ∷ 255 ∷ 255 ∷ 7 ∷ []) ≡ Some (number (negsuc 1), 7 ∷ [])
unfolding read_within
a_number_is_read = refl

-- a list is read off the front of bytes
a_list_is_read : read_value (value_bytes pair ++ 9 ∷ []) ≡ Some (pair, 9 ∷ [])
unfolding read_within is_utf8 chars encode
a_list_is_read = refl

-- a list of one list of nothing needs two levels
two_levels : read_within 2 (5 ∷ 1 ∷ 0 ∷ 0 ∷ 0 ∷ 5 ∷ 0 ∷ 0 ∷ 0 ∷ 0 ∷ []) ≡ Some (list (vals_of (list (vals_of []) ∷ [])), [])
unfolding read_within
two_levels = refl

-- a list of one list does not fit into one level
one_level : read_within 1 (5 ∷ 1 ∷ 0 ∷ 0 ∷ 0 ∷ 5 ∷ 0 ∷ 0 ∷ 0 ∷ 0 ∷ []) ≡ None
unfolding read_within
one_level = refl

-- nothing else spells a value
another_kind : read_value (6 ∷ []) ≡ None
unfolding read_within
another_kind = refl

-- a text that is no UTF-8 is no value
no_utf8 : read_value (3 ∷ 1 ∷ 0 ∷ 0 ∷ 0 ∷ 255 ∷ []) ≡ None
unfolding read_within is_utf8 chars encode
no_utf8 = refl

-- what is cut short is no value
no_kind : read_value [] ≡ None
unfolding read_within
no_kind = refl

-- a number that lacks a byte is no value
a_short_number : read_value (0 ∷ 1 ∷ 0 ∷ 0 ∷ 0 ∷ 0 ∷ 0 ∷ 0 ∷ []) ≡ None
unfolding read_within
a_short_number = refl

-- a text that lacks a byte is no value
a_short_text : read_value (3 ∷ 2 ∷ 0 ∷ 0 ∷ 0 ∷ 104 ∷ []) ≡ None
unfolding read_within
a_short_text = refl

-- a symbol without its bytes is no value
a_short_symbol : read_value (4 ∷ 1 ∷ 0 ∷ 0 ∷ []) ≡ None
unfolding read_within
a_short_symbol = refl

-- a list that lacks an item is no value
a_short_list : read_value (5 ∷ 2 ∷ 0 ∷ 0 ∷ 0 ∷ 1 ∷ []) ≡ None
unfolding read_within
a_short_list = refl
