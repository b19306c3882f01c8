use Rattle.std.proofs.Common.{length, subst}
use Rattle.script_nodes.specs.Arena.{Arena, script_of}
use Rattle.script_nodes.specs.Core.{AllOnCells}
use Rattle.script_nodes.specs.Setup.{trees_of}
use Rattle.script_nodes.proofs.Scripts.{script_on_cells}
use Rattle.script_nodes.proofs.script.Script.root.Goals as goal

pub returns-clause-cells : goal.returns-clause-cells
returns-clause-cells c =
    subst (λ (a : Arena). AllOnCells (length a.web) (length a.cells) (trees_of (script_of a))) c.self.view_is (script_on_cells _ c.self.invariant)
