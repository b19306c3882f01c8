-- Equality of values, as a test.
use Rattle.std.specs.Prelude.{◌&&◌, Bool, true, false, not}
use Rattle.std.specs.Ordering.{int_eq}
use Rattle.std.specs.Str.{bytes_eq}
use Rattle.script_value.specs.Val.{Val, Vals, number, truth, text, symbol, list, no_vals, val}

-- whether two truths are equal
abbrev pub same_truth : Bool → Bool → Bool
same_truth true b = b
same_truth false b = not b

-- whether two values are of one kind and of the same contents
abbrev mutual
  pub same : Val → Val → Bool
  same (number m) (number n) = int_eq m n
  same (truth a) (truth b) = same_truth a b
  same (text s) (text t) = bytes_eq s t
  same (symbol s) (symbol t) = bytes_eq s t
  same (list vs) (list ws) = same_items vs ws
  same _ _ = false

  -- whether two lists have equal items, as many and in the same order
  pub same_items : Vals → Vals → Bool
  same_items no_vals no_vals = true
  same_items (val v vs) (val w ws) = same v w && same_items vs ws
  same_items _ _ = false
