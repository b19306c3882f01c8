use Rattle.std.proofs.Common.{◌≡◌, map, drop}
use Rattle.script_value.specs.Views.{meaning}
use Rattle.prim_spec.specs.Numbers.{difference_from}
use Rattle.prim_ops.proofs.numbers.difference.Given as goal

abbrev pub invariant-loop-value : goal.invariant-loop-value
invariant-loop-value l =
    difference_from l.first (map meaning l.others) ≡ difference_from l.difference (map meaning (drop l.value-index l.others))
