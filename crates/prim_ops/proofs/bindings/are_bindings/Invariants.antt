use Rattle.std.proofs.Common.{◌≡◌, map, drop}
use Rattle.script_value.specs.Val.{vals_of}
use Rattle.script_value.specs.Views.{meaning}
use Rattle.prim_spec.specs.Bindings.{are_bindings}
use Rattle.prim_ops.proofs.bindings.are_bindings.Given as goal

abbrev pub invariant-loop-value : goal.invariant-loop-value
invariant-loop-value l =
    are_bindings (vals_of (map meaning l.values)) ≡ are_bindings (vals_of (map meaning (drop l.value-index l.values)))
