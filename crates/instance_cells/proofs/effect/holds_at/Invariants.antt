use Rattle.std.proofs.Common.{◌↔◌, map, drop}
use Rattle.script_value.specs.Views.{meaning}
use Rattle.instance_cells.specs.Views.{effect_of, seen_of}
use Rattle.instance_cells.specs.OneCell.{HoldsAt}
use Rattle.instance_cells.proofs.effect.holds_at.Given as goal

abbrev pub invariant-loop-effect : goal.invariant-loop-effect
invariant-loop-effect l =
    HoldsAt l.cell (map effect_of l.effects) (meaning l.start) ↔ HoldsAt l.cell (map effect_of (drop l.effect-index l.effects)) (seen_of l.seen)
