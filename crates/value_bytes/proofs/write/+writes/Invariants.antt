use Rattle.std.proofs.Common.{◌≡◌, ◌++◌, ◌+◌, ◌*◌, map, drop}
use Rattle.script_value.specs.Val.{vals_of, depth, depth_all}
use Rattle.script_value.specs.Views.{meaning}
use Rattle.value_bytes.specs.Spelling.{all_bytes, AllFit}
use Rattle.value_bytes.proofs.write.+writes.Given as goal

abbrev pub decreases-write_parts : goal.decreases-write_parts
decreases-write_parts l = 2 * depth (meaning l.value.now)

abbrev pub decreases-write_all : goal.decreases-write_all
decreases-write_all l = 2 * depth_all (vals_of (map meaning l.values.now)) + 1

abbrev pub invariant-write_all-loop-value : goal.invariant-write_all-loop-value
invariant-write_all-loop-value l = record {
  written : l.writer ++ all_bytes (vals_of (map meaning (drop l.value-index l.values))) ≡ l.fn.writer ++ all_bytes (vals_of (map meaning l.values));
  fit : AllFit (vals_of (map meaning (drop l.value-index l.values)));
}
