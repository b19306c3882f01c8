-- Which texts spell which data: the grammar by cases.
use Rattle.std.specs.Prelude.{◌≡◌, ◌≢◌, ℕ, suc, ◌≤◌, Bool, true, false, Some, List, [], ◌∷◌, ◌++◌, length, codes}
use Rattle.std.specs.Str.{IsUtf8}
use Rattle.script_value.specs.Val.{Val, number, truth, text, symbol, list, vals_of}
use Rattle.script_value.specs.Numbers.{is_number, number_of, is_in_range}
use Rattle.sexp_reader.specs.Limits.{most_bytes, most_levels}
use Rattle.sexp_reader.specs.Letters.{is_blank, ends_token, escaped, is_symbol}

-- a comment holds no newline
abbrev pub NoNewline : List ℕ → Type 0
NoNewline [] = Unit {0}
NoNewline (b ∷ bs) = (b ≢ 10) × NoNewline bs

-- a comment goes up to a newline or the end
abbrev pub AtLineEnd : List ℕ → Type 0
AtLineEnd [] = Unit {0}
AtLineEnd (b ∷ bs) = b ≡ 10

-- a token's bytes end no token
abbrev pub AllPlain : List ℕ → Type 0
AllPlain [] = Unit {0}
AllPlain (b ∷ bs) = (ends_token b ≡ false) × AllPlain bs

-- a token has one byte or more
abbrev pub IsToken : List ℕ → Type 0
IsToken [] = ⊥
IsToken (b ∷ bs) = AllPlain (b ∷ bs)

-- a token goes up to a byte that ends it or the end
abbrev pub AtTokenEnd : List ℕ → Type 0
AtTokenEnd [] = Unit {0}
AtTokenEnd (b ∷ bs) = ends_token b ≡ true

-- Gap bytes rest: bytes are space and comments, any or none, and then rest
pub data Gap : List ℕ → List ℕ → Type 0 where
  no_gap : (rest : List ℕ) → Gap rest rest
  blank : (b : ℕ) (bytes rest : List ℕ) → is_blank b ≡ true → Gap bytes rest → Gap (b ∷ bytes) rest
  comment : (line bytes rest : List ℕ) → NoNewline line → AtLineEnd bytes → Gap bytes rest → Gap (59 ∷ (line ++ bytes)) rest

-- Letters bytes chars rest: bytes are the spelling of chars in a text, its closing quote, and then rest
pub data Letters : List ℕ → List ℕ → List ℕ → Type 0 where
  end_of_text : (rest : List ℕ) → Letters (34 ∷ rest) [] rest
  letter : (b : ℕ) (bytes chars rest : List ℕ) → b ≢ 34 → b ≢ 92 → Letters bytes chars rest → Letters (b ∷ bytes) (b ∷ chars) rest
  escape : (b c : ℕ) (bytes chars rest : List ℕ) → escaped b ≡ Some c → Letters bytes chars rest
      → Letters (92 ∷ b ∷ bytes) (c ∷ chars) rest

-- Truth token b: the token is the truth value b
pub data Truth : List ℕ → Bool → Type 0 where
  short_true : Truth (codes "#t") true
  long_true : Truth (codes "#true") true
  short_false : Truth (codes "#f") false
  long_false : Truth (codes "#false") false

-- Encloses b c: a list stands between the bytes b and c
pub data Encloses : ℕ → ℕ → Type 0 where
  parentheses : Encloses 40 41
  brackets : Encloses 91 93

-- Marks mark name: the mark before a datum stands for the list of the symbol of this name and the datum
pub data Marks : List ℕ → List ℕ → Type 0 where
  quote : Marks (codes "'") (codes "quote")
  quasiquote : Marks (codes "`") (codes "quasiquote")
  unquote : Marks (codes ",") (codes "unquote")
  unquote_splicing : Marks (codes ",@") (codes "unquote-splicing")

mutual
  -- Datum levels bytes v rest: bytes are a spelling of v in which at most so many lists and marks are open at once, and then rest;
  -- no datum begins with @, so a comma that @ follows is no mark of its own
  pub data Datum : ℕ → List ℕ → Val → List ℕ → Type 0 where
    a_number : (levels : ℕ) (token rest : List ℕ) → IsToken token → AtTokenEnd rest → is_number token ≡ true
        → is_in_range (number_of token) ≡ true → Datum levels (token ++ rest) (number (number_of token)) rest
    a_truth : (levels : ℕ) (token : List ℕ) (b : Bool) (rest : List ℕ) → Truth token b → AtTokenEnd rest → Datum levels (token ++ rest) (truth b) rest
    a_symbol : (levels : ℕ) (token rest : List ℕ) → IsToken token → AtTokenEnd rest → is_number token ≡ false → is_symbol token ≡ true
        → Datum levels (token ++ rest) (symbol token) rest
    a_text : (levels : ℕ) (bytes chars rest : List ℕ) → Letters bytes chars rest → Datum levels (34 ∷ bytes) (text chars) rest
    a_list : (levels b c : ℕ) (bytes : List ℕ) (vs : List Val) (rest : List ℕ) → Encloses b c → Data levels bytes vs (c ∷ rest)
        → Datum (suc levels) (b ∷ bytes) (list (vals_of vs)) rest
    a_mark : (levels : ℕ) (mark name bytes middle : List ℕ) (v : Val) (rest : List ℕ) → Marks mark name → Gap bytes middle
        → Datum levels middle v rest → Datum (suc levels) (mark ++ bytes) (list (vals_of (symbol name ∷ v ∷ []))) rest

  -- Data levels bytes vs rest: bytes are spellings of vs in their order, in which at most so many lists and marks are open at once,
  -- with gaps before and after them, and then rest
  pub data Data : ℕ → List ℕ → List Val → List ℕ → Type 0 where
    no_data : (levels : ℕ) (bytes rest : List ℕ) → Gap bytes rest → Data levels bytes [] rest
    a_datum : (levels : ℕ) (bytes middle : List ℕ) (v : Val) (after : List ℕ) (vs : List Val) (rest : List ℕ) → Gap bytes middle
        → Datum levels middle v after → Data levels after vs rest → Data levels bytes (v ∷ vs) rest

-- A text spells data: it is UTF-8 of at most 65,536 bytes, and the whole of it is a spelling of the data with at most 128 levels.
pub record Spells (bytes : List ℕ) (vs : List Val) : Type 0 where
  pub short : length bytes ≤ most_bytes
  pub utf8 : IsUtf8 bytes
  pub grammar : Data most_levels bytes vs []
