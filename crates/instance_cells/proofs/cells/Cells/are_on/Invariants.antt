use Rattle.std.proofs.Common.{◌↔◌, map, drop, length}
use Rattle.instance_cells.specs.Cells.{AreOn}
use Rattle.instance_cells.specs.Views.{effect_of}
use Rattle.instance_cells.proofs.cells.Cells.are_on.Given as goal

abbrev pub invariant-loop-effect : goal.invariant-loop-effect
invariant-loop-effect l =
    AreOn (length l.self) (map effect_of l.effects) ↔ AreOn (length l.self) (map effect_of (drop l.effect-index l.effects))
