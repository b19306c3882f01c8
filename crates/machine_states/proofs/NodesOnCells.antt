-- The nodes of a script are on its cells.
use Rattle.std.proofs.Common.{◌≡◌, ℕ, false, length, Option, Some, None, refl}
use Rattle.std.specs.Prelude.{slice_get, unwrap_or}
use Rattle.script_value.specs.declared.value.Value.TheVariants.{Truth}
use Rattle.script_nodes.specs.declared.script.Node.{Node}
use Rattle.script_nodes.specs.declared.script.Node.TheVariants as node
use Rattle.script_nodes.specs.Arena.{Arena, IsScript, IsOnCells}
use Rattle.script_nodes.proofs.Scripts.{node_on_cells}
use Rattle.machine_states.specs.Machine.{node_at}

-- the cell that a node names, if it names one, is there
pub on_cells : (a : Arena) → IsScript a → (n : ℕ) → IsOnCells (length a.web) (length a.cells) (node_at a n)
on_cells a i n = by_option (slice_get a.nodes n) refl
  where
    by_option : (o : Option Node) → slice_get a.nodes n ≡ o → IsOnCells (length a.web) (length a.cells) (unwrap_or o (node.Lit (Truth false)))
    by_option None e = tt
    by_option (Some x) e = node_on_cells a i n x e
