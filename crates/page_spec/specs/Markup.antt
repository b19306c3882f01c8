-- The parts of a page: characters, names, attributes and tags.
use Rattle.std.specs.Prelude.{ℕ, ◌==◌, ◌&&◌, ◌||◌, not, Bool, false, List, [], ◌∷◌, ◌++◌, nat_le, codes, if◌then◌else◌}
use Rattle.std.specs.List.{list_all, list_any, flat_map}
use Rattle.std.specs.Str.{bytes_eq}

-- a byte of a text: `&`, `<` and `>` are written as entities
abbrev pub text_byte : ℕ → List ℕ
text_byte b =
    if b == 38 then codes "&amp;" else
    if b == 60 then codes "&lt;" else
    if b == 62 then codes "&gt;" else b ∷ []

-- a byte of an attribute's text: `&`, `<`, `>` and `"` are written as entities
abbrev pub attribute_byte : ℕ → List ℕ
attribute_byte b = if b == 34 then codes "&quot;" else text_byte b

-- whether a byte is a letter from `a` to `z`
abbrev pub is_lower : ℕ → Bool
is_lower b = nat_le 97 b && nat_le b 122

-- whether a byte is a letter from `A` to `Z`
abbrev pub is_upper : ℕ → Bool
is_upper b = nat_le 65 b && nat_le b 90

-- whether a byte is a digit from `0` to `9`
abbrev pub is_digit : ℕ → Bool
is_digit b = nat_le 48 b && nat_le b 57

-- whether a byte may stand in an element's name: a lower-case letter, a digit or `-`
abbrev pub is_element_byte : ℕ → Bool
is_element_byte b = is_lower b || is_digit b || b == 45

-- whether a byte is a letter of ASCII
abbrev pub is_letter : ℕ → Bool
is_letter b = is_lower b || is_upper b

-- whether a byte is a letter or a digit of ASCII
abbrev pub is_letter_or_digit : ℕ → Bool
is_letter_or_digit b = is_letter b || is_digit b

-- whether a byte may stand in an attribute's name: a letter, a digit, `-`, `_`, `:` or `.`
abbrev pub is_attribute_byte : ℕ → Bool
is_attribute_byte b = is_letter_or_digit b || b == 45 || b == 95 || b == 58 || b == 46

-- the void elements, which have no children and no end tag
abbrev pub void_names : List (List ℕ)
void_names =
    codes "area" ∷ codes "base" ∷ codes "br" ∷ codes "col" ∷ codes "embed" ∷ codes "hr" ∷ codes "img" ∷ codes "input" ∷ codes "link" ∷ codes "meta"
    ∷ codes "source" ∷ codes "track" ∷ codes "wbr" ∷ []

-- whether a name is that of a void element
abbrev pub is_void : List ℕ → Bool
is_void n = list_any (bytes_eq n) void_names

-- whether a name is that of a raw text element, whose text is no text of the page
abbrev pub is_raw_text : List ℕ → Bool
is_raw_text n = bytes_eq n (codes "script") || bytes_eq n (codes "style")

-- an element that may have children: a lower-case letter, then lower-case letters, digits and `-`; neither void nor raw text
abbrev pub is_element : List ℕ → Bool
is_element [] = false
is_element (b ∷ bs) = is_lower b && list_all is_element_byte bs && not (is_void (b ∷ bs)) && not (is_raw_text (b ∷ bs))

-- whether a name may be that of an attribute: a letter, then letters, digits, `-`, `_`, `:` and `.`
abbrev pub is_attribute : List ℕ → Bool
is_attribute [] = false
is_attribute (b ∷ bs) = is_letter b && list_all is_attribute_byte bs

-- whether a name may be that of an entity: a letter, then letters and digits
abbrev pub is_entity_name : List ℕ → Bool
is_entity_name [] = false
is_entity_name (b ∷ bs) = is_letter b && list_all is_letter_or_digit bs

-- the entity of a name: `&NAME;`
abbrev pub named_entity : List ℕ → List ℕ
named_entity n = codes "&" ++ n ++ codes ";"

-- the characters of a text, escaped
abbrev pub escaped_text : List ℕ → List ℕ
escaped_text t = flat_map text_byte t

-- the characters of an attribute's text, escaped
abbrev pub escaped_attribute : List ℕ → List ℕ
escaped_attribute t = flat_map attribute_byte t

-- an attribute of this name and text: ` NAME="TEXT"`
abbrev pub one_attribute : List ℕ → List ℕ → List ℕ
one_attribute n t = codes " " ++ n ++ codes "=\"" ++ escaped_attribute t ++ codes "\""

-- the start tag of an element: `<NAME`, the attributes and `>`
abbrev pub start_tag : List ℕ → List ℕ → List ℕ
start_tag n attributes = codes "<" ++ n ++ attributes ++ codes ">"

-- the end tag of an element: `</NAME>`
abbrev pub end_tag : List ℕ → List ℕ
end_tag n = codes "</" ++ n ++ codes ">"
