use Rattle.std.proofs.Common.{refl}
use Rattle.std.proofs.lemmas.Option.{slice_get_read}
use Rattle.script_nodes.proofs.Scripts.{parts_behind, node_full, node_on_cells, node_on_tasks, node_laid}
use Rattle.script_nodes.proofs.Trees.{tree_at_node}
use Rattle.script_nodes.proofs.script.Script.node.Goals as goal

pub returns-clause-behind : goal.returns-clause-behind
returns-clause-behind c =
    let within = rw (← c.self.view_is) at c.requires in
    let here = slice_get_read _ _ c.args.number c.index.result.now refl within c.index.ensures in
    rw (← c.self.view_is) (parts_behind _ c.self.invariant _ _ here)

pub returns-clause-full : goal.returns-clause-full
returns-clause-full c =
    let within = rw (← c.self.view_is) at c.requires in
    let here = slice_get_read _ _ c.args.number c.index.result.now refl within c.index.ensures in
    node_full _ c.self.invariant _ _ here

pub returns-clause-cells : goal.returns-clause-cells
returns-clause-cells c =
    let within = rw (← c.self.view_is) at c.requires in
    let here = slice_get_read _ _ c.args.number c.index.result.now refl within c.index.ensures in
    rw (← c.self.view_is) (node_on_cells _ c.self.invariant _ _ here)

pub returns-clause-tasks : goal.returns-clause-tasks
returns-clause-tasks c =
    let within = rw (← c.self.view_is) at c.requires in
    let here = slice_get_read _ _ c.args.number c.index.result.now refl within c.index.ensures in
    rw (← c.self.view_is) (node_on_tasks _ c.self.invariant _ _ here)

pub returns-clause-laid : goal.returns-clause-laid
returns-clause-laid c =
    let within = rw (← c.self.view_is) at c.requires in
    let here = slice_get_read _ _ c.args.number c.index.result.now refl within c.index.ensures in
    rw (← c.self.view_is) (node_laid _ c.self.invariant _ _ here)

pub returns-clause-tree : goal.returns-clause-tree
returns-clause-tree c =
    let within = rw (← c.self.view_is) at c.requires in
    let here = slice_get_read _ _ c.args.number c.index.result.now refl within c.index.ensures in
    rw (← c.self.view_is) (tree_at_node _ c.self.invariant _ _ here)
