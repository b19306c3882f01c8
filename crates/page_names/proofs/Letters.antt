-- The bytes of a name are ASCII, and so a text.
use Rattle.std.proofs.Common.{◌≡◌, ◌<◌, ℕ, List, [], ◌∷◌, true, arith}
use Rattle.std.specs.List.{list_all}
use Rattle.std.specs.Str.{IsAscii}
use Rattle.std.specs.Prelude.{IsUtf8}
use Rattle.std.proofs.lemmas.Bool.{and_parts}
use Rattle.std.proofs.lemmas.Bool.Decides.{nat_tests}
use Rattle.std.proofs.lemmas.Str.{IsUtf8-from_ascii}
use Rattle.std.proofs.lemmas.Str.Ascii.{IsAscii-nil, IsAscii-cons}
use Rattle.page_names.specs.NameBytes.{is_name_byte, is_name}

below : (b : ℕ) → is_name_byte b ≡ true → b < 128
below b h = grind (arith, nat_tests)

ascii : (bs : List ℕ) → list_all is_name_byte bs ≡ true → IsAscii bs
ascii [] h = IsAscii-nil
ascii (b ∷ bs) h =
    let two = and_parts (is_name_byte b) (list_all is_name_byte bs) h in IsAscii-cons b bs (below b two.0) (ascii bs two.1)

pub name_utf8 : (bs : List ℕ) → is_name bs ≡ true → IsUtf8 bs
name_utf8 bs h = IsUtf8-from_ascii bs (ascii bs (and_parts _ (list_all is_name_byte bs) h).1)
