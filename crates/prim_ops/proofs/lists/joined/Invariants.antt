use Rattle.std.proofs.Common.{◌≡◌, ◌++◌, map}
use Rattle.script_value.specs.Views.{meaning}
use Rattle.prim_spec.specs.Lists.{joined}
use Rattle.prim_ops.proofs.lists.joined.Given as goal

abbrev pub invariant-loop-value : goal.invariant-loop-value
invariant-loop-value l = joined l.fn.lists ≡ l.all ++ joined (map meaning l.value-iterator.rest.items)
