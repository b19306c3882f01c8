use Rattle.std.proofs.Common.{◌≡◌, map, drop}
use Rattle.script_value.specs.Views.{meaning}
use Rattle.prim_spec.specs.Lists.{is_any_too_deep}
use Rattle.prim_ops.proofs.lists.is_any_too_deep.Given as goal

abbrev pub invariant-loop-value : goal.invariant-loop-value
invariant-loop-value l = is_any_too_deep (map meaning l.values) ≡ is_any_too_deep (map meaning (drop l.value-index l.values))
