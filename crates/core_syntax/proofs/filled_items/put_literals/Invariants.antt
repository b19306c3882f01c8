use Rattle.std.proofs.Common.{◌≡◌, ◌++◌, take}
use Rattle.core_syntax.specs.Filling.{literals}
use Rattle.core_syntax.proofs.filled_items.put_literals.Given as goal

abbrev pub invariant-loop-value : goal.invariant-loop-value
invariant-loop-value l = l.trees.items ≡ l.initial.trees.items ++ literals (take l.value-index l.values)
