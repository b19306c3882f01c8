use Rattle.std.proofs.Common.{◌≡◌, map, take}
use Rattle.script_value.specs.Views.{meaning}
use Rattle.instance_cells.proofs.cells.Cells.of.Given as goal

abbrev pub invariant-loop-value : goal.invariant-loop-value
invariant-loop-value l = l.values ≡ map meaning (take l.value-index l.defaults)
