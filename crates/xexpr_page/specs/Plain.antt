-- Bytes that are on a page as they are in a text.
use Rattle.std.specs.Prelude.{ℕ, Bool, ◌==◌, ◌&&◌, ◌||◌, not}

-- whether a text keeps this byte as it is: any but `&`, `<` and `>`
abbrev pub is_plain_in_text : ℕ → Bool
is_plain_in_text b = not (b == 38 || b == 60 || b == 62)

-- whether an attribute's text keeps this byte as it is: any but `&`, `<`, `>` and `"`
abbrev pub is_plain_in_attribute : ℕ → Bool
is_plain_in_attribute b = not (b == 34) && is_plain_in_text b
