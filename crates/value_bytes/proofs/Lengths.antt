-- How long spellings are.
use Rattle.std.proofs.Common.{◌≡◌, ℕ, ◌+◌, ◌<◌, List, [], ◌∷◌, ◌++◌, length, map, take, get_or, arith, length-append}
use Rattle.std.proofs.lemmas.List.{map_more}
use Rattle.script_value.specs.Val.{Val, vals_of}
use Rattle.script_value.specs.Views.{meaning}
use Rattle.script_value.specs.declared.value.Value.{Value}
use Rattle.value_bytes.specs.Spelling.{value_bytes, all_bytes}

all_behind : (vs : List Val) (v : Val) → length (all_bytes (vals_of (vs ++ v ∷ []))) ≡ length (all_bytes (vals_of vs)) + length (value_bytes v)
all_behind [] v = omega (arith, length-append (value_bytes v) [])
all_behind (w ∷ vs) v =
    omega (arith, all_behind vs v, length-append (value_bytes w) (all_bytes (vals_of (vs ++ v ∷ []))), length-append (value_bytes w) (all_bytes (vals_of vs)))

pub all_more : (xs : List Value) (i : ℕ) (d : Value) → i < length xs
    → length (all_bytes (vals_of (map meaning (take (i + 1) xs)))) ≡ length (all_bytes (vals_of (map meaning (take i xs)))) + length (value_bytes (meaning (get_or xs i d)))
all_more xs i d h = rw (map_more meaning xs i d h) (all_behind (map meaning (take i xs)) (meaning (get_or xs i d)))
