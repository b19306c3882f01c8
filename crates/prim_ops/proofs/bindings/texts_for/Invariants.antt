use Rattle.std.proofs.Common.{◌≡◌, ◌++◌, map, drop}
use Rattle.script_value.specs.Val.{vals_of, text}
use Rattle.script_value.specs.Views.{meaning}
use Rattle.prim_spec.specs.Bindings.{texts_for}
use Rattle.prim_ops.proofs.bindings.texts_for.Given as goal

abbrev pub invariant-loop-value : goal.invariant-loop-value
invariant-loop-value l =
    map text (texts_for l.key (vals_of (map meaning l.values)))
    ≡ l.texts ++ map text (texts_for l.key (vals_of (map meaning (drop l.value-index l.values))))
