use Rattle.std.proofs.Common.{map, drop}
use Rattle.std.specs.Prelude.{◌↔◌}
use Rattle.std.specs.List.{AllByRecursion}
use Rattle.script_value.specs.Views.{meaning}
use Rattle.value_bytes.specs.Spelling.{HasBytes}
use Rattle.value_bytes.proofs.write.have_bytes.Given as goal

abbrev pub invariant-loop-value : goal.invariant-loop-value
invariant-loop-value l =
    AllByRecursion HasBytes (map meaning (drop l.value-index l.values)) ↔ AllByRecursion HasBytes (map meaning l.values)
