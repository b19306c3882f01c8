use Rattle.std.proofs.Common.{◌+◌, ◌*◌, map, drop}
use Rattle.std.specs.Prelude.{◌↔◌}
use Rattle.script_value.specs.Val.{vals_of, depth, depth_all}
use Rattle.script_value.specs.Views.{meaning}
use Rattle.value_bytes.specs.Spelling.{AllFit}
use Rattle.value_bytes.proofs.write.+tests.Given as goal

abbrev pub decreases-fits : goal.decreases-fits
decreases-fits l = 2 * depth (meaning l.value.now)

abbrev pub decreases-all_fit : goal.decreases-all_fit
decreases-all_fit l = 2 * depth_all (vals_of (map meaning l.values.now)) + 1

abbrev pub invariant-all_fit-loop-value : goal.invariant-all_fit-loop-value
invariant-all_fit-loop-value l =
    AllFit (vals_of (map meaning (drop l.value-index l.values))) ↔ AllFit (vals_of (map meaning l.values))
