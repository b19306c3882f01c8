use Rattle.std.proofs.Common.{◌≡◌, map, length}
use Rattle.std.specs.Prelude.{◌↔◌}
use Rattle.web_cells.specs.Views.{pair_of}
use Rattle.book_redo.proofs.same.are_same_shadows.Given as goal

abbrev pub invariant-loop-left : goal.invariant-loop-left
invariant-loop-left l = (map pair_of l.left ≡ map pair_of l.right) ↔ (map pair_of l.fn.left ≡ map pair_of l.fn.right)

abbrev pub decreases-loop-left : goal.decreases-loop-left
decreases-loop-left l = length l.left
