use Rattle.std.proofs.Common.{◌≡◌, map, drop, length}
use Rattle.instance_cells.specs.Cells.{AreOn, commit}
use Rattle.instance_cells.specs.Views.{effect_of}
use Rattle.instance_cells.proofs.cells.Cells.committed.Given as goal

abbrev pub invariant-loop-effect : goal.invariant-loop-effect
invariant-loop-effect l =
    AreOn (length l.next) (map effect_of (drop l.effect-index l.effects))
    × (commit (map effect_of (drop l.effect-index l.effects)) l.next ≡ commit (map effect_of l.effects) l.self)
