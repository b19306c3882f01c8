-- How values are read: what stands at the front, and what is left after it.
use Rattle.std.specs.Prelude.{ℕ, zero, suc, ◌==◌, ℤ, true, false, List, [], ◌∷◌, Option, Some, None, option_map, if◌then◌else◌}
use Rattle.std.specs.Int.{w64, cast_signed}
use Rattle.std.specs.Str.{is_utf8}
use Rattle.script_value.specs.Val.{Val, number, truth, text, symbol, list, vals_of}
use Rattle.script_value.specs.Pieces.{◌>>=◌}
use Rattle.wire_bytes.specs.Reading.{read_u32, read_u64, read_bytes}
use Rattle.value_bytes.specs.Spelling.{most_levels}

-- a reader of an A: the one in front, and the bytes that are left after it; none where none stands there
abbrev pub Reader : Type 0 → Type 0
Reader A = List ℕ → Option (A × List ℕ)

-- what was read, seen as something else
abbrev pub seen_as : {A B : Type 0} → (A → B) → Option (A × List ℕ) → Option (B × List ℕ)
seen_as view outcome = option_map (λ read. (view read.0, read.1)) outcome

-- reads so many items, one after the other
abbrev pub read_several : {A : Type 0} → Reader A → ℕ → Reader (List A)
read_several read zero bytes = Some ([], bytes)
read_several read (suc n) bytes = do
  x ← read bytes
  xs ← read_several read n x.1
  Some (x.0 ∷ xs.0, xs.1)

-- reads a list: a count, and as many items
abbrev pub read_list : {A : Type 0} → Reader A → Reader (List A)
read_list read bytes = do
  count ← read_u32 bytes
  read_several read count.0 count.1

-- a number of 64 bits with a sign
abbrev pub read_i64 : Reader ℤ
read_i64 bytes = seen_as (λ n. cast_signed w64 n) (read_u64 bytes)

-- a byte string that is UTF-8
abbrev pub read_utf8 : Reader (List ℕ)
read_utf8 bytes = do
  t ← read_bytes bytes
  if is_utf8 t.0 then Some t else None

-- a value of this kind, whose items are read so
abbrev pub read_kind : Reader (List Val) → ℕ → Reader Val
read_kind read_items kind rest =
    if kind == 0 then seen_as number (read_i64 rest) else
    (if kind == 1 then Some (truth false, rest) else
    (if kind == 2 then Some (truth true, rest) else
    (if kind == 3 then seen_as text (read_utf8 rest) else
    (if kind == 4 then seen_as symbol (read_utf8 rest) else
    (if kind == 5 then seen_as (λ vs. list (vals_of vs)) (read_items rest) else None)))))

-- a value, whose items are read so
abbrev pub read_front : Reader (List Val) → Reader Val
read_front read_items [] = None
read_front read_items (kind ∷ rest) = read_kind read_items kind rest

-- a reader that finds nothing in any bytes
abbrev pub read_none : {A : Type 0} → Reader A
read_none bytes = None

-- a value that nests at most so many levels deep
unfoldable pub read_within : ℕ → Reader Val
read_within zero bytes = read_front read_none bytes
read_within (suc levels) bytes = read_front (read_list (read_within levels)) bytes

-- the items of a list that nests at most so many levels deep
abbrev pub read_items_within : ℕ → Reader (List Val)
read_items_within zero bytes = None
read_items_within (suc levels) bytes = read_list (read_within levels) bytes

-- a value
abbrev pub read_value : Reader Val
read_value bytes = read_within most_levels bytes

-- a list of values
abbrev pub read_values : Reader (List Val)
read_values bytes = read_list read_value bytes
