use Rattle.std.proofs.Common.{◌≡◌, map, length}
use Rattle.std.specs.Prelude.{◌↔◌}
use Rattle.instance_cells.specs.Views.{effect_of}
use Rattle.book_redo.proofs.again.are_same_effects.Given as goal

abbrev pub invariant-loop-left : goal.invariant-loop-left
invariant-loop-left l = (map effect_of l.left ≡ map effect_of l.right) ↔ (map effect_of l.fn.left ≡ map effect_of l.fn.right)

abbrev pub decreases-loop-left : goal.decreases-loop-left
decreases-loop-left l = length l.left
