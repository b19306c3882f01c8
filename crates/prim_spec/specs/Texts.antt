-- What operations on texts and symbols give.
use Rattle.std.specs.Prelude.{ℕ, ℤ, pos, Bool, true, false, List, [], ◌∷◌, ◌++◌, Option, Some, None, Result, Ok, Err, length}
use Rattle.std.specs.Fmt.{signed_decimal}
use Rattle.std.specs.Str.{bytes_eq, chars}
use Rattle.script_value.specs.Val.{Val, number, truth, text, symbol}
use Rattle.script_value.specs.Numbers.{number_in}
use Rattle.script_value.specs.declared.outcome.Fault.{Fault}
use Rattle.script_value.specs.declared.outcome.Fault.TheVariants.{WrongType}
use Rattle.prim_spec.specs.Numbers.{in_range}

-- whether each of these values is a text
abbrev pub are_texts : List Val → Bool
are_texts [] = true
are_texts (text t ∷ vs) = are_texts vs
are_texts _ = false

-- the bytes of texts, in order
abbrev pub joined : List Val → List ℕ
joined [] = []
joined (text t ∷ vs) = t ++ joined vs
joined (v ∷ vs) = joined vs

-- how many characters a text in UTF-8 has
abbrev pub length_of : List Val → Result Val Fault
length_of (text t ∷ []) = in_range (pos (length (chars t)))
length_of _ = Err WrongType

-- whether two texts are the same
abbrev pub equal_texts : List Val → Result Val Fault
equal_texts (text s ∷ text t ∷ []) = Ok (truth (bytes_eq s t))
equal_texts _ = Err WrongType

-- a number in decimal
abbrev pub text_of_number : List Val → Result Val Fault
text_of_number (number n ∷ []) = Ok (text (signed_decimal n))
text_of_number _ = Err WrongType

-- a number as a value, or #f where there is none
abbrev pub number_or_false : Option ℤ → Val
number_or_false None = truth false
number_or_false (Some n) = number n

-- what `string->number` gives for a text: its number, false where it is none, or a fault for another value
abbrev pub number_of_text : List Val → Result Val Fault
number_of_text (text t ∷ []) = Ok (number_or_false (number_in t))
number_of_text _ = Err WrongType

-- the characters of a symbol, as a text
abbrev pub text_of_symbol : List Val → Result Val Fault
text_of_symbol (symbol s ∷ []) = Ok (text s)
text_of_symbol _ = Err WrongType

-- the characters of a text, as a symbol
abbrev pub symbol_of_text : List Val → Result Val Fault
symbol_of_text (text t ∷ []) = Ok (symbol t)
symbol_of_text _ = Err WrongType
