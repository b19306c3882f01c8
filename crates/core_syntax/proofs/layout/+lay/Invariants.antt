use Rattle.std.proofs.Common.{◌*◌, ◌+◌, take}
use Rattle.script_nodes.specs.Core.{cores_of}
use Rattle.core_syntax.specs.Laid.{StandAll}
use Rattle.core_syntax.proofs.layout.+lay.Given as goal

abbrev pub decreases-lay : goal.decreases-lay
decreases-lay l = 4 * l.left + 3

abbrev pub decreases-lay_group : goal.decreases-lay_group
decreases-lay_group l = 4 * l.left + 2

abbrev pub decreases-lay_let : goal.decreases-lay_let
decreases-lay_let l = 4 * l.left + 1

abbrev pub decreases-lay_nested : goal.decreases-lay_nested
decreases-lay_nested l = 4 * l.left + 2

abbrev pub decreases-lay_nest : goal.decreases-lay_nest
decreases-lay_nest l = 4 * l.left + 1

abbrev pub decreases-lay_chosen : goal.decreases-lay_chosen
decreases-lay_chosen l = 4 * l.left + 2

abbrev pub decreases-lay_alone : goal.decreases-lay_alone
decreases-lay_alone l = 4 * l.left + 1

abbrev pub decreases-lay_choice : goal.decreases-lay_choice
decreases-lay_choice l = 4 * l.left + 1

abbrev pub decreases-lay_for : goal.decreases-lay_for
decreases-lay_for l = 4 * l.left + 2

abbrev pub decreases-lay_single : goal.decreases-lay_single
decreases-lay_single l = 4 * l.left + 2

abbrev pub decreases-lay_all : goal.decreases-lay_all
decreases-lay_all l = 4 * l.left + 4

abbrev pub decreases-lay_within : goal.decreases-lay_within
decreases-lay_within l = 4 * l.left + 4

abbrev pub decreases-lay_otherwise : goal.decreases-lay_otherwise
decreases-lay_otherwise l = 4 * l.left + 4

abbrev pub invariant-lay_all-loop-tree : goal.invariant-lay_all-loop-tree
invariant-lay_all-loop-tree l = StandAll l.fn.nodes l.nodes l.left l.numbers.items (cores_of (take l.tree-index l.trees))
