-- The bytes of the grammar and their classes.
use Rattle.std.proofs.Common.{◌≡◌, ℕ, true, arith}
use Rattle.std.specs.Prelude.{not}
use Rattle.std.proofs.lemmas.Bool.Decides.{nat_tests}
use Rattle.sexp_reader.specs.declared.classes.Class.TheVariants.{Blank, Comment, Opening, Closing, Marking, DoubleQuote}
use Rattle.sexp_reader.specs.declared.classes.Delimiter.{Delimiter}
use Rattle.sexp_reader.specs.declared.classes.Delimiter.TheVariants.{Parenthesis, Bracket}
use Rattle.sexp_reader.specs.declared.classes.Mark.{Mark}
use Rattle.sexp_reader.specs.declared.classes.Mark.TheVariants.{Quote, Quasiquote, Unquote, UnquoteSplicing}
use Rattle.sexp_reader.specs.Letters.{is_blank, ends_token, class_of, is_plain}

pub class_blank : (b : ℕ) → class_of b ≡ Blank → is_blank b ≡ true
class_blank b h = grind (arith, nat_tests)

pub class_comment : (b : ℕ) → class_of b ≡ Comment → b ≡ 59
class_comment b h = grind (arith, nat_tests)

abbrev pub opening_byte : Delimiter → ℕ
opening_byte Parenthesis = 40
opening_byte Bracket = 91

abbrev pub closing_byte : Delimiter → ℕ
closing_byte Parenthesis = 41
closing_byte Bracket = 93

pub class_opening : (b : ℕ) (d : Delimiter) → class_of b ≡ Opening d → b ≡ opening_byte d
class_opening b Parenthesis h = grind (arith, nat_tests)
class_opening b Bracket h = grind (arith, nat_tests)

pub class_closing : (b : ℕ) (d : Delimiter) → class_of b ≡ Closing d → b ≡ closing_byte d
class_closing b Parenthesis h = grind (arith, nat_tests)
class_closing b Bracket h = grind (arith, nat_tests)

-- the first byte of a mark
abbrev pub mark_byte : Mark → ℕ
mark_byte Quote = 39
mark_byte Quasiquote = 96
mark_byte Unquote = 44
mark_byte UnquoteSplicing = 44

pub class_mark : (b : ℕ) (m : Mark) → class_of b ≡ Marking m → b ≡ mark_byte m
class_mark b Quote h = grind (arith, nat_tests)
class_mark b Quasiquote h = grind (arith, nat_tests)
class_mark b Unquote h = grind (arith, nat_tests)
class_mark b UnquoteSplicing h = grind (arith, nat_tests)

pub class_text : (b : ℕ) → class_of b ≡ DoubleQuote → b ≡ 34
class_text b h = grind (arith, nat_tests)

pub plain_is : (b : ℕ) → is_plain (class_of b) ≡ not (ends_token b)
plain_is b = grind (arith, nat_tests)
