use Rattle.std.proofs.Common.{◌≡◌, map, drop, pos}
use Rattle.script_value.specs.Views.{meaning}
use Rattle.prim_spec.specs.Numbers.{sum_from}
use Rattle.prim_ops.proofs.numbers.sum.Given as goal

abbrev pub invariant-loop-value : goal.invariant-loop-value
invariant-loop-value l = sum_from (pos 0) (map meaning l.values) ≡ sum_from l.sum (map meaning (drop l.value-index l.values))
