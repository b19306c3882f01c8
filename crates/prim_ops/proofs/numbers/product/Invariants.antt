use Rattle.std.proofs.Common.{◌≡◌, map, drop, pos}
use Rattle.script_value.specs.Views.{meaning}
use Rattle.prim_spec.specs.Numbers.{product_from}
use Rattle.prim_ops.proofs.numbers.product.Given as goal

abbrev pub invariant-loop-value : goal.invariant-loop-value
invariant-loop-value l = product_from (pos 1) (map meaning l.values) ≡ product_from l.product (map meaning (drop l.value-index l.values))
