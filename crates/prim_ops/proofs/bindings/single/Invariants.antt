use Rattle.std.proofs.Common.{◌≡◌, ◌++◌, map, drop, option_map}
use Rattle.std.specs.Option.{option_to_list}
use Rattle.script_value.specs.Val.{vals_of}
use Rattle.script_value.specs.Views.{meaning}
use Rattle.prim_spec.specs.Bindings.{texts_for}
use Rattle.prim_ops.proofs.bindings.single.Given as goal

abbrev pub invariant-loop-value : goal.invariant-loop-value
invariant-loop-value l =
    texts_for l.key (vals_of (map meaning l.values))
    ≡ option_to_list (option_map (λ t. t.now) l.found) ++ texts_for l.key (vals_of (map meaning (drop l.value-index l.values)))
