-- The bytes of a script's text, and the words that they make.
use Rattle.std.specs.Prelude.{ℕ, Bool, true, false, ◌&&◌, ◌||◌, not, Option, None, Some, List, [], ◌∷◌, ◌==◌, codes, if◌then◌else◌}
use Rattle.std.specs.List.{list_all}
use Rattle.std.specs.Str.{bytes_eq}
use Rattle.std.specs.Char.{is_ascii_digit, is_ascii_alphanumeric}
use Rattle.sexp_reader.specs.declared.classes.Class.{Class}
use Rattle.sexp_reader.specs.declared.classes.Class.TheVariants.{Blank, Comment, Opening, Closing, Marking, DoubleQuote, Plain}
use Rattle.sexp_reader.specs.declared.classes.Delimiter.{Delimiter}
use Rattle.sexp_reader.specs.declared.classes.Delimiter.TheVariants.{Parenthesis, Bracket}
use Rattle.sexp_reader.specs.declared.classes.Mark.{Mark}
use Rattle.sexp_reader.specs.declared.classes.Mark.TheVariants.{Quote, Quasiquote, Unquote, UnquoteSplicing}

-- whether a byte is a space, a tab, a newline or a carriage return
abbrev pub is_blank : ℕ → Bool
is_blank b = (b == 32) || (b == 9) || (b == 10) || (b == 13)

-- whether a byte ends a token: a space, a tab, a newline, a carriage return, or one of ; ( [ ) ] ' ` , "
abbrev pub ends_token : ℕ → Bool
ends_token b =
    is_blank b || (b == 59) || (b == 40) || (b == 91) || (b == 41) || (b == 93) || (b == 39) || (b == 96) || (b == 44) || (b == 34)

-- what a byte is where a piece may begin: ; ( [ ) ] ' ` , " in this order, and what ends no token is plain
abbrev pub class_of : ℕ → Class
class_of b =
    if is_blank b then Blank else
    if b == 59 then Comment else
    if b == 40 then Opening Parenthesis else
    if b == 91 then Opening Bracket else
    if b == 41 then Closing Parenthesis else
    if b == 93 then Closing Bracket else
    if b == 39 then Marking Quote else
    if b == 96 then Marking Quasiquote else
    if b == 44 then Marking Unquote else
    if b == 34 then DoubleQuote else Plain

-- whether a class is that of a token's bytes
abbrev pub is_plain : Class → Bool
is_plain Plain = true
is_plain Blank = false
is_plain Comment = false
is_plain (Opening delimiter) = false
is_plain (Closing delimiter) = false
is_plain (Marking mark) = false
is_plain DoubleQuote = false

-- whether what closes a list is of the kind that opened it
abbrev pub same_delimiter : Delimiter → Delimiter → Bool
same_delimiter Parenthesis Parenthesis = true
same_delimiter Parenthesis Bracket = false
same_delimiter Bracket Parenthesis = false
same_delimiter Bracket Bracket = true

-- the whole of a mark whose first byte is this mark, and what follows it: a comma right before @ is one mark with it
abbrev pub whole_mark : Mark → List ℕ → Mark × List ℕ
whole_mark Unquote (b ∷ bs) = if b == 64 then (UnquoteSplicing, bs) else (Unquote, b ∷ bs)
whole_mark mark bytes = (mark, bytes)

-- the name at the head of the list that a mark before a datum stands for
abbrev pub name_of : Mark → List ℕ
name_of Quote = codes "quote"
name_of Quasiquote = codes "quasiquote"
name_of Unquote = codes "unquote"
name_of UnquoteSplicing = codes "unquote-splicing"

-- the character that a backslash and a byte stand for in a text: \\ \" \n \t \r, and no others
abbrev pub escaped : ℕ → Option ℕ
escaped b =
    if b == 92 then Some 92 else
    if b == 34 then Some 34 else
    if b == 110 then Some 10 else
    if b == 116 then Some 9 else
    if b == 114 then Some 13 else None

-- the truth value that a token is
abbrev pub truth_of : List ℕ → Option Bool
truth_of token =
    if bytes_eq token (codes "#t") then Some true else
    if bytes_eq token (codes "#true") then Some true else
    if bytes_eq token (codes "#f") then Some false else
    if bytes_eq token (codes "#false") then Some false else None

-- whether a byte is one of ! $ % & * / : < = > ? ^ _ ~ + - .
abbrev pub is_symbol_sign : ℕ → Bool
is_symbol_sign b =
    (b == 33) || (b == 36) || (b == 37) || (b == 38) || (b == 42) || (b == 47) || (b == 58) || (b == 60) || (b == 61)
    || (b == 62) || (b == 63) || (b == 94) || (b == 95) || (b == 126) || (b == 43) || (b == 45) || (b == 46)

-- whether a byte may stand in a symbol: a letter, a digit or one of the signs ! $ % & * / : < = > ? ^ _ ~ + - .
abbrev pub is_symbol_byte : ℕ → Bool
is_symbol_byte b = is_ascii_alphanumeric b || is_symbol_sign b

-- whether a byte is a plus or a minus
abbrev pub is_sign : ℕ → Bool
is_sign b = (b == 43) || (b == 45)

-- whether there is no byte
abbrev pub is_empty : List ℕ → Bool
is_empty [] = true
is_empty (b ∷ bs) = false

-- whether a token is a symbol: it begins with no digit and no point, and with a sign only where it is that sign alone
abbrev pub is_symbol : List ℕ → Bool
is_symbol [] = false
is_symbol (b ∷ bs) = list_all is_symbol_byte (b ∷ bs) && not (is_ascii_digit b) && not (b == 46) && (not (is_sign b) || is_empty bs)
