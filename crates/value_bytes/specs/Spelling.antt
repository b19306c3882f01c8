-- How values are written: each in one way.
use Rattle.std.specs.Prelude.{ℕ, ◌<◌, ◌≤◌, ◌^◌, ℤ, true, false, List, [], ◌∷◌, ◌++◌, length, FitsSigned, ⊤}
use Rattle.std.specs.Int.{w64, cast_unsigned}
use Rattle.std.specs.Str.{IsUtf8}
use Rattle.std.specs.List.{flat_map, AllByRecursion}
use Rattle.script_value.specs.Val.{Val, Vals, number, truth, text, symbol, list, no_vals, val, items_of, depth}
use Rattle.wire_bytes.specs.Spelling.{u32_bytes, u64_bytes, byte_string}

-- a number of 64 bits with a sign, in two's complement, the least byte first
abbrev pub i64_bytes : ℤ → List ℕ
i64_bytes n = u64_bytes (cast_unsigned w64 n)

-- how many values there are
abbrev pub count_of : Vals → ℕ
count_of vs = length (items_of vs)

-- a value: a byte for its kind, and what it contains; the items of a list stand after their count
abbrev mutual
  pub value_bytes : Val → List ℕ
  value_bytes (number n) = 0 ∷ i64_bytes n
  value_bytes (truth false) = 1 ∷ []
  value_bytes (truth true) = 2 ∷ []
  value_bytes (text t) = 3 ∷ byte_string t
  value_bytes (symbol s) = 4 ∷ byte_string s
  value_bytes (list vs) = 5 ∷ (u32_bytes (count_of vs) ++ all_bytes vs)

  -- values, one after the other
  pub all_bytes : Vals → List ℕ
  all_bytes no_vals = []
  all_bytes (val v vs) = value_bytes v ++ all_bytes vs

-- a list of anything: how many, and each of them
abbrev pub list_bytes : {A : Type 0} → (A → List ℕ) → List A → List ℕ
list_bytes spelled xs = u32_bytes (length xs) ++ flat_map spelled xs

-- a list of values
abbrev pub values_bytes : List Val → List ℕ
values_bytes vs = list_bytes value_bytes vs

-- each part of a value can be written: a number has 64 bits with a sign, a text and a symbol are in UTF-8, and what has a
-- length or a count, one of 32 bits
abbrev mutual
  pub Fits : Val → Type 0
  Fits (number n) = FitsSigned w64 n
  Fits (truth b) = ⊤
  Fits (text t) = IsUtf8 t × (length t < 2 ^ 32)
  Fits (symbol s) = IsUtf8 s × (length s < 2 ^ 32)
  Fits (list vs) = (count_of vs < 2 ^ 32) × AllFit vs

  -- each of these values can be written
  pub AllFit : Vals → Type 0
  AllFit no_vals = ⊤
  AllFit (val v vs) = Fits v × AllFit vs

-- a value can be written, and nests at most so many levels deep
pub record HasBytesWithin (levels : ℕ) (v : Val) : Type 0 where
  pub deep : depth v ≤ levels
  pub fits : Fits v

-- how deep a value may nest that is written
abbrev pub most_levels : ℕ
most_levels = 200

-- a value has a spelling
abbrev pub HasBytes : Val → Type 0
HasBytes v = HasBytesWithin most_levels v

-- a list has a spelling: it can be counted, and this holds of each item
abbrev pub FitsList : {A : Type 0} → (A → Type 0) → List A → Type 0
FitsList P xs = (length xs < 2 ^ 32) × AllByRecursion P xs

-- each of several values has a spelling, and so has their list
abbrev pub HaveBytes : List Val → Type 0
HaveBytes vs = FitsList HasBytes vs
