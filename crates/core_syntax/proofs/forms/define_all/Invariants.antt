use Rattle.std.proofs.Common.{◌≡◌, map, length}
use Rattle.script_value.specs.Views.{meaning}
use Rattle.core_syntax.specs.Definitions.{expanded, expanded_from}
use Rattle.core_syntax.specs.DefinitionsSeen.{cells_of}
use Rattle.core_syntax.proofs.Forming.{Stays, total}
use Rattle.core_syntax.proofs.forms.define_all.Given as goal

abbrev pub decreases-loop-left : goal.decreases-loop-left
decreases-loop-left l = length l.left

abbrev pub invariant-loop-left : goal.invariant-loop-left
invariant-loop-left l =
    Stays (cells_of l.defined) × (expanded (map meaning l.forms) ≡ expanded_from (total (cells_of l.defined)) (cells_of l.defined) (map meaning l.left))
