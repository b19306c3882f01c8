use Rattle.std.proofs.Common.{◌≡◌, ◌+◌, ◌*◌, ◌^◌, min, length, map, take}
use Rattle.script_value.specs.Val.{vals_of, depth, depth_all}
use Rattle.script_value.specs.Views.{meaning}
use Rattle.value_bytes.specs.Spelling.{all_bytes}
use Rattle.value_bytes.proofs.length.+lengths.Given as goal

abbrev pub decreases-value_length : goal.decreases-value_length
decreases-value_length l = 2 * depth (meaning l.value.now)

abbrev pub decreases-all_length : goal.decreases-all_length
decreases-all_length l = 2 * depth_all (vals_of (map meaning l.values.now)) + 1

abbrev pub invariant-all_length-loop-value : goal.invariant-all_length-loop-value
invariant-all_length-loop-value l =
    l.sum ≡ min (length (all_bytes (vals_of (map meaning (take l.value-index l.values))))) (2 ^ 63)
