-- Numbers in 16 hexadecimal digits.
use Rattle.std.specs.Prelude.{ℕ, zero, suc, ◌/◌, ◌%◌, ◌==◌, ◌&&◌, ◌||◌, Bool, false, List, [], ◌∷◌, Option, Some, None, length, nat_le, if◌then◌else◌}
use Rattle.std.specs.List.{list_all}
use Rattle.std.specs.Fmt.{digit_glyph}
use Rattle.std.specs.Str.Parse.{digits_value}

-- a hexadecimal digit: `0` to `9` and `a` to `f`
abbrev pub is_hex_digit : ℕ → Bool
is_hex_digit b = (nat_le 48 b && nat_le b 57) || (nat_le 97 b && nat_le b 102)

-- the number of 16 hexadecimal digits
abbrev pub hex_number : List ℕ → Option ℕ
hex_number digits =
    if length digits == 16 && list_all is_hex_digit digits then Some (digits_value 16 digits) else None

-- the last k hexadecimal digits of n, and then what follows
abbrev pub hex_onto : ℕ → ℕ → List ℕ → List ℕ
hex_onto zero n after = after
hex_onto (suc k) n after = hex_onto k (n / 16) (digit_glyph false (n % 16) ∷ after)

-- a number in exactly 16 hexadecimal digits
unfoldable pub hex16 : ℕ → List ℕ
hex16 n = hex_onto 16 n []
