-- Nodes over parts.
use Rattle.std.specs.Prelude.{ℕ, List}
use Rattle.script_nodes.specs.declared.script.Node.{Node}
use Rattle.script_nodes.specs.declared.script.Node.TheVariants as node
use Rattle.core_syntax.specs.declared.tree.Group.{Group}
use Rattle.core_syntax.specs.declared.tree.Group.TheVariants as group
use Rattle.core_syntax.specs.declared.tree.Single.{Single}
use Rattle.core_syntax.specs.declared.tree.Single.TheVariants as single
use Rattle.core_syntax.specs.Laid.{last_node, store_node}

-- the node over the parts of these numbers
abbrev pub group_node : Group → List ℕ → Node
group_node group.Seq ps = node.Seq ps
group_node group.And ps = node.And ps
group_node group.Or ps = node.Or ps
group_node (group.Prim o) ps = node.Prim o ps
group_node (group.Call k) ps = node.Call k ps

-- the node over the part of this number
abbrev pub single_node : Single → ℕ → Node
single_node (single.Send kind) p = node.Send kind p
single_node (single.Last kind) p = last_node kind p
single_node single.Isolate p = node.Isolate p
single_node (single.Store kind c) p = store_node kind c p
