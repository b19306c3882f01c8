-- Small texts and what they read as.
use Rattle.std.specs.Prelude.{◌≡◌, pos, negsuc, true, false, Ok, Err, [], ◌∷◌, ◌++◌, replicate, refl, codes}
use Rattle.std.specs.Str.{is_utf8, chars}
use Rattle.std.specs.Str.Lossy.{utf8_valid_len}
use Rattle.std.proofs.Math.Utf8.{encode}
use Rattle.std.proofs.lemmas.Bool.{eqb-false}
use Rattle.script_value.specs.Val.{number, truth, text, symbol, list, vals_of}
use Rattle.sexp_reader.specs.declared.fault.ReadKind.TheVariants.{Token, Unclosed, Unopened, Mismatch, Range, Deep, Long, Utf8}
use Rattle.sexp_reader.specs.declared.classes.Mark.TheVariants.{Quote, Quasiquote, Unquote, UnquoteSplicing}
use Rattle.sexp_reader.specs.Read.{read, scan, marked_list}
use Rattle.sexp_reader.specs.Spells.{no_gap, blank, comment, brackets, unquote_splicing}
use Rattle.sexp_reader.specs.Laws.{no_escape, past_letter, past_escape, Faulty, no_word, no_text, no_datum, deep_mark}

-- the text that is open is the innermost
pub inner_text : scan (codes "(p \"") ≡ Err (3, Unclosed)
inner_text = refl

-- a list that is not closed is at fault at its parenthesis
pub open_list : scan (codes "(") ≡ Err (0, Unclosed)
open_list = refl

-- a parenthesis that closes nothing is at fault
pub never_opened : scan (codes ")") ≡ Err (0, Unopened)
never_opened = refl

-- a quote before what closes is at fault
pub mark_of_nothing : scan (codes "')") ≡ Err (0, Token)
mark_of_nothing = refl

-- of two quotes before what closes, the inner one is at fault
pub inner_mark : scan (codes "('')") ≡ Err (2, Token)
inner_mark = refl

-- a symbol, a text, a list and a quoted symbol need no gap between them where each ends by itself
pub four_data : scan (codes "a\"b\"(c)'d")
    ≡ Ok (symbol (codes "a") ∷ text (codes "b") ∷ list (vals_of (symbol (codes "c") ∷ [])) ∷ marked_list Quote (symbol (codes "d")) ∷ [])
four_data = refl

-- a number past the greatest is out of range
pub too_large : scan (codes "9223372036854775808") ≡ Err (0, Range)
too_large = refl

-- the least number is read
pub least : scan (codes "-9223372036854775808") ≡ Ok (number (negsuc 9223372036854775807) ∷ [])
least = refl

-- a token with a brace in it is none
pub brace : scan (codes "ab{c") ≡ Err (0, Token)
brace = refl

-- a lone minus is a symbol
pub minus : scan (codes "-") ≡ Ok (symbol (codes "-") ∷ [])
minus = refl

-- a number may have a plus
pub plus_five : scan (codes "+5") ≡ Ok (number (pos 5) ∷ [])
plus_five = refl

-- a minus before a letter begins no token
pub minus_x : scan (codes "-x") ≡ Err (0, Token)
minus_x = refl

-- a comment goes up to the end of its line
pub line_comment : scan (codes "a ; b\n ; c") ≡ Ok (symbol (codes "a") ∷ [])
line_comment = refl

-- a text with an escape that stands for nothing is at fault at its beginning
pub bad_escape : scan (codes "x \"\\q") ≡ Err (2, Token)
bad_escape = refl

-- a text that ends in an escape is not closed
pub open_escape : scan (codes "\"\\") ≡ Err (0, Unclosed)
open_escape = refl

-- a quote may stand before another
pub two_marks : scan (codes "''a") ≡ Ok (marked_list Quote (marked_list Quote (symbol (codes "a"))) ∷ [])
two_marks = refl

-- the empty list is a datum
pub empty_list : scan (codes "()") ≡ Ok (list (vals_of []) ∷ [])
empty_list = refl

-- escapes stand for a newline and for a quotation mark
pub escapes : scan (codes "\"\\n\\\"\"") ≡ Ok (text (10 ∷ 34 ∷ []) ∷ [])
escapes = refl

-- brackets are parentheses
pub bracketed : scan (codes "[a (b)]") ≡ Ok (list (vals_of (symbol (codes "a") ∷ list (vals_of (symbol (codes "b") ∷ [])) ∷ [])) ∷ [])
bracketed = refl

-- the list that is open decides
pub other_closes : scan (codes "[(a])") ≡ Err (3, Mismatch)
other_closes = refl

-- a bracket that closes nothing is at fault
pub bracket_unopened : scan (codes "a]") ≡ Err (1, Unopened)
bracket_unopened = refl

-- the mark comes before the kind of what closes
pub mark_before_other : scan (codes "(a ,]") ≡ Err (3, Token)
mark_before_other = refl

-- each of the four marks is a list of its name and its datum
pub each_mark : scan (codes "'a `b ,c ,@d")
    ≡ Ok (marked_list Quote (symbol (codes "a")) ∷ marked_list Quasiquote (symbol (codes "b")) ∷ marked_list Unquote (symbol (codes "c"))
    ∷ marked_list UnquoteSplicing (symbol (codes "d")) ∷ [])
each_mark = refl

-- a comma and an @ that do not touch are no mark
pub apart : scan (codes ", @d") ≡ Err (2, Token)
apart = refl

-- a gap and a comment may stand between a mark and its datum
pub gap_behind_mark : scan (codes "' ; x\n x") ≡ Ok (marked_list Quote (symbol (codes "x")) ∷ [])
gap_behind_mark = refl

-- a comma with an @ before what closes is at fault
pub splice_of_nothing : scan (codes "(,@)") ≡ Err (1, Token)
splice_of_nothing = refl

-- a mark at the end of the text is not closed
pub mark_at_end : scan (codes "(a `") ≡ Err (3, Unclosed)
mark_at_end = refl

-- a truth has a long and a short spelling
pub truths : scan (codes "#t #true #f #false") ≡ Ok (truth true ∷ truth true ∷ truth false ∷ truth false ∷ [])
truths = refl

-- a hash that begins no truth is at fault
pub no_truth : scan (codes "a #tr") ≡ Err (2, Token)
no_truth = refl

-- a hash in a token is at fault
pub hash_inside : scan (codes "a#t") ≡ Err (0, Token)
hash_inside = refl

-- a point begins no token
pub point : scan (codes ".5") ≡ Err (0, Token)
point = refl

-- the parenthesis that opens level 129, and a mark that does
pub too_deep : scan (replicate 129 40) ≡ Err (128, Deep)
too_deep = refl

-- a mark at level 129 is at fault
pub mark_too_deep : scan (replicate 128 91 ++ codes "'a") ≡ Err (128, Deep)
mark_too_deep = refl

-- 128 levels are none too many
pub deep_enough : scan (replicate 128 39 ++ codes ")") ≡ Err (127, Token)
deep_enough = refl

-- a text of too many bytes is not read on, whatever is wrong with it
pub too_long : read (replicate 65537 255) ≡ Err (65536, Long)
too_long = refl

-- what is no UTF-8 is told first, at the first such byte
pub no_utf8 : read (41 ∷ 195 ∷ []) ≡ Err (1, Utf8)
unfolding is_utf8 chars encode utf8_valid_len
no_utf8 = refl

-- an e with an accent stands in a text and in a comment, and in no token
pub other_characters : read (34 ∷ 195 ∷ 169 ∷ 34 ∷ 59 ∷ 195 ∷ 169 ∷ []) ≡ Ok (text (195 ∷ 169 ∷ []) ∷ [])
unfolding is_utf8 chars encode utf8_valid_len
other_characters = refl

-- a character outside ASCII in a token is at fault
pub other_token : read (97 ∷ 32 ∷ 195 ∷ 169 ∷ []) ≡ Err (2, Token)
unfolding is_utf8 chars encode utf8_valid_len
other_token = refl

-- pieces at fault: up to the end of a token, to the byte that makes no escape, and to what closes
pub faulty_token : Faulty Token (codes "a{c")
faulty_token = no_word (codes "a{c") (refl, (refl, (refl, tt))) refl refl

-- a text with a bad escape is faulty up to that escape
pub faulty_text : Faulty Token (codes "\"a\\\"\\q")
faulty_text = no_text _ (past_letter 97 _ (eqb-false 97 34 refl) (eqb-false 97 92 refl) (past_escape 34 34 _ refl (no_escape 113 refl)))

-- a mark is faulty up to what closes after it, with the gap between them
pub faulty_mark : Faulty Token (codes ",@ ;x\n]")
faulty_mark = no_datum (codes ",@") (codes "unquote-splicing") (codes " ;x\n") 91 93 unquote_splicing
    (blank 32 _ _ refl (comment (codes "x") (codes "\n]") _ (eqb-false 120 10 refl, tt) refl (blank 10 _ _ refl (no_gap (codes "]"))))) brackets

-- a comma at a level too deep is faulty by itself
pub faulty_comma : Faulty Deep (codes ",")
faulty_comma = deep_mark 44 (codes "@") (codes "unquote-splicing") unquote_splicing
