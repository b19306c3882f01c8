use Rattle.std.proofs.Common.{◌≡◌, map, drop}
use Rattle.script_value.specs.Views.{meaning}
use Rattle.prim_spec.specs.Lists.{are_lists}
use Rattle.prim_ops.proofs.lists.are_lists.Given as goal

abbrev pub invariant-loop-value : goal.invariant-loop-value
invariant-loop-value l = are_lists (map meaning l.values) ≡ are_lists (map meaning (drop l.value-index l.values))
