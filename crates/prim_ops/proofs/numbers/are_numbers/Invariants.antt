use Rattle.std.proofs.Common.{◌≡◌, map, drop}
use Rattle.script_value.specs.Views.{meaning}
use Rattle.prim_spec.specs.Numbers.{are_numbers}
use Rattle.prim_ops.proofs.numbers.are_numbers.Given as goal

abbrev pub invariant-loop-value : goal.invariant-loop-value
invariant-loop-value l = are_numbers (map meaning l.values) ≡ are_numbers (map meaning (drop l.value-index l.values))
