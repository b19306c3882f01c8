-- A spelling has no escape, and no more bytes than the longest.
use Rattle.std.proofs.Common.{◌≡◌, ◌≢◌, ℕ, ◌^◌, ◌<◌, ◌≤◌, ◌==◌, not, true, List, [], ◌∷◌, length, length-append, Option, Some, None, IsTrue, IfSome, option_map, refl, sym, ◌∙◌, ap, arith}
use Rattle.std.specs.List.{list_all}
use Rattle.std.specs.Char.{is_ascii_digit}
use Rattle.std.specs.Fmt.{decimal}
use Rattle.std.proofs.lemmas.Bool.{and_parts}
use Rattle.std.proofs.lemmas.Bool.Decides.{nat_tests}
use Rattle.std.proofs.lemmas.Fmt.{length-decimal-le}
use Rattle.percent_encoding.specs.Percent.{percent_decode}
use Rattle.percent_encoding.proofs.PercentLemmas.{percent_decode-nil, percent_decode_not_percent}
use Rattle.script_value.specs.Texts.{lacks}
use Rattle.script_value.proofs.Texts.{lacks-append}
use Rattle.page_names.specs.declared.names.PageName.{PageName}
use Rattle.page_names.specs.declared.names.Target.{Target}
use Rattle.page_names.specs.Hex.{is_hex_digit, hex16}
use Rattle.page_names.specs.Names.{is_name_byte, is_name, Destination, start, page, spelling, numbers_spelling, IsPageName, IsDestination, named_by, destination_of, SpellingsAreRead, SpellingsDiffer}
use Rattle.page_names.specs.Views.{target_of}
use Rattle.std.proofs.lemmas.Option.{same_Some}
use Rattle.script_value.proofs.Numerals.{decimal_digits}
use Rattle.page_names.proofs.Hex.{hex16_length, hex16_digits}
use Rattle.script_value.proofs.Cuts.{lacking}
use Rattle.page_names.proofs.Spelled.{named_spelled, spelling_named}

-- ---- escapes

-- bytes without `%` decode to themselves
decode_plain : (bytes : List ℕ) → lacks 37 bytes ≡ true → percent_decode bytes ≡ bytes
decode_plain [] h = percent_decode-nil
decode_plain (b ∷ bytes) h =
    let two = and_parts (not (b == 37)) (lacks 37 bytes) h in
    let other : b ≢ 37 = grind (arith, nat_tests) in
    percent_decode_not_percent b bytes other ∙ ap (λ xs. b ∷ xs) (decode_plain bytes two.1)

plain_name : (name : List ℕ) → IsTrue (is_name name) → lacks 37 name ≡ true
plain_name name is = let two = and_parts _ (list_all is_name_byte name) is in lacking is_name_byte 37 refl name two.1

plain_decimal : (n : ℕ) → n < 2 ^ 64 → lacks 37 (decimal n) ≡ true
plain_decimal n small = lacking is_ascii_digit 37 refl (decimal n) (decimal_digits n small)

plain_numbers : (p : PageName) → IsPageName p → lacks 37 (numbers_spelling p) ≡ true
plain_numbers p fits =
    let nonce = lacking is_hex_digit 37 refl (hex16 p.nonce) (hex16_digits p.nonce) in
    let number = lacks-append 37 (decimal p.page) _ (plain_decimal p.page fits.page) nonce in
    let instance = lacks-append 37 (decimal p.instance) _ (plain_decimal p.instance fits.instance) number in
    lacks-append 37 (decimal p.shelf) _ (plain_decimal p.shelf (omega (arith, fits.shelf))) instance

plain_spelling : (d : Destination) → IsDestination d → lacks 37 (spelling d) ≡ true
plain_spelling (start name) is = plain_name name is
plain_spelling (page name numbers) is = lacks-append 37 name _ (plain_name name is.0) (plain_numbers numbers is.1)

-- so a spelling names its destination as a path too
pub spelling_read : SpellingsAreRead
unfolding destination_of
spelling_read d is = ap named_by (decode_plain (spelling d) (plain_spelling d is)) ∙ spelling_named d is

pub spellings_differ : SpellingsDiffer
spellings_differ d e is_d is_e same =
    same_Some _ _ (sym (spelling_named d is_d) ∙ ap named_by same ∙ spelling_named e is_e)

-- ---- lengths

name_length : (name : List ℕ) → IsTrue (is_name name) → length name ≤ 32
name_length name is = grind (arith, nat_tests)

numbers_length : (p : PageName) → IsPageName p → length (numbers_spelling p) ≤ 69
numbers_length p fits =
    let shelf = length-decimal-le 10 p.shelf (omega arith) (omega (arith, fits.shelf)) (omega (arith, fits.shelf)) in
    let instance = length-decimal-le 20 p.instance (omega arith) (omega (arith, fits.instance)) fits.instance in
    let number = length-decimal-le 20 p.page (omega arith) (omega (arith, fits.page)) fits.page in
    omega (arith, length-append {A = ℕ}, hex16_length p.nonce)

spelling_length : (d : Destination) → IsDestination d → length (spelling d) ≤ 112
spelling_length (start name) is = omega (arith, name_length name is)
spelling_length (page name numbers) is =
    omega (arith, length-append name (59 ∷ numbers_spelling numbers), name_length name is.0, numbers_length numbers is.1)

-- what is longer names nothing
long_unnamed : (bytes : List ℕ) → 112 < length bytes → named_by bytes ≡ None
long_unnamed bytes long = by_case (named_by bytes) refl
  where
    by_case : (o : Option Destination) → named_by bytes ≡ o → o ≡ None
    by_case None e = refl
    by_case (Some d) e =
        let s = named_spelled bytes d e in
        absurd (omega (arith, ap length s.0, spelling_length d s.1))

pub long_path : (path : List ℕ) → 112 < length (percent_decode path) → destination_of path ≡ None
unfolding destination_of
long_path path long = long_unnamed (percent_decode path) long

-- ---- what a reader's target says of the path

pub target_spelled : (o : Option Target) (path : List ℕ) → option_map target_of o ≡ destination_of path
    → IfSome o (λ t. percent_decode path ≡ spelling (target_of t))
unfolding destination_of
target_spelled None path e = tt
target_spelled (Some t) path e = (named_spelled (percent_decode path) (target_of t) (sym e)).0

pub target_found : (o : Option Target) (path : List ℕ) → option_map target_of o ≡ destination_of path
    → (d : Destination) → IsDestination d → percent_decode path ≡ spelling d → option_map target_of o ≡ Some d
unfolding destination_of
target_found o path e d is same = e ∙ ap named_by same ∙ spelling_named d is

-- a page's URL names the page
pub url_named : (bytes name : List ℕ) (numbers : PageName) → bytes ≡ spelling (page name numbers) → IsTrue (is_name name) → IsPageName numbers
    → destination_of bytes ≡ Some (page name numbers)
url_named bytes name numbers e is fits = ap destination_of e ∙ spelling_read (page name numbers) (is, fits)
