-- What the parts of a node call, and the expression.
use Rattle.std.proofs.Common.{◌≡◌, ℕ, ◌+◌, ◌≤◌, List, [], ◌∷◌, ◌++◌, map, length, ap, arith}
use Rattle.std.specs.List.{AllByRecursion}
use Rattle.script_nodes.specs.declared.script.Node.{Node}
use Rattle.script_nodes.specs.declared.script.Node.TheVariants as node
use Rattle.script_nodes.specs.Core.{Cores, no_cores, core, cores_of, count, count_all}
use Rattle.script_nodes.specs.Layout.{layout_all, starts}
use Rattle.script_nodes.specs.Layouts.{length-layout_all, count_pos}
use Rattle.script_nodes.specs.Setup.{trees_of}
use Rattle.script_nodes.specs.Calls.{CallsBelow, AllCallBelow}
use Rattle.script_nodes.specs.Arena.{Arena, IsScript, IsBehind, parts, shape, tree_at, trees_at, script_of}
use Rattle.script_nodes.proofs.Below.{closed_below}
use Rattle.script_nodes.proofs.Scripts.{tasks_length}
use Rattle.plain_rerun.specs.Parts.{AreBehind, CallsEarlier}

-- ## The parts of a node

module _ (a : Arena) (j n : ℕ) where
  all_under : (ps : List ℕ) → AllByRecursion (IsBehind n (length a.nodes)) ps → AllCallBelow j (cores_of (map (tree_at a.nodes) ps)) → AreBehind a j n ps
  all_under [] h k = tt
  all_under (p ∷ ps) h k = ((h.0, k.0), all_under ps h.1 k.1)

  last_under : (ps : List ℕ) (p : ℕ) → AllByRecursion (IsBehind n (length a.nodes)) (ps ++ p ∷ []) → AllCallBelow j (cores_of (map (tree_at a.nodes) ps))
      → CallsBelow j (tree_at a.nodes p) → AreBehind a j n (ps ++ p ∷ [])
  last_under [] p h k l = ((h.0, l), tt)
  last_under (q ∷ ps) p h k l = ((h.0, k.0), last_under ps p h.1 k.1 l)

  by_node : (x : Node) → AllByRecursion (IsBehind n (length a.nodes)) (parts x) → CallsBelow j (shape (tree_at a.nodes) x) → AreBehind a j n (parts x)
  by_node (node.Lit v) h k = tt
  by_node (node.Var v) h k = tt
  by_node (node.Let ps b) h k = last_under ps b h k.0 k.1
  by_node (node.Seq ps) h k = all_under ps h k
  by_node (node.If t x y) h k = ((h.0, k.0), ((h.1.0, k.1), ((h.1.1.0, k.2), tt)))
  by_node (node.And ps) h k = all_under ps h k
  by_node (node.Or ps) h k = all_under ps h k
  by_node (node.For c b) h k = ((h.0, k.0), ((h.1.0, k.1), tt))
  by_node (node.Prim o ps) h k = all_under ps h k
  by_node (node.Call t ps) h k = all_under ps h k.1
  by_node (node.Send kind b) h k = ((h.0, k), tt)
  by_node (node.Finish b) h k = ((h.0, k), tt)
  by_node (node.Back b) h k = ((h.0, k), tt)
  by_node (node.Isolate b) h k = ((h.0, k), tt)
  by_node (node.CellRef c) h k = tt
  by_node (node.CellShadow c e) h k = ((h.0, k), tt)
  by_node (node.InstRef c) h k = tt
  by_node (node.InstSet c e) h k = ((h.0, k), tt)
  by_node (node.InstAdd c e) h k = ((h.0, k), tt)

  earlier_node : (x : Node) → CallsBelow j (shape (tree_at a.nodes) x) → CallsEarlier j x
  earlier_node (node.Call t ps) k = k.0
  earlier_node _ k = tt

pub parts_under : (a : Arena) (j n : ℕ) (x : Node) → AllByRecursion (IsBehind n (length a.nodes)) (parts x) → CallsBelow j (tree_at a.nodes n)
    → tree_at a.nodes n ≡ shape (tree_at a.nodes) x → AreBehind a j n (parts x)
parts_under a j n x h k e = by_node a j n x h (rw e at k)

pub call_earlier : (a : Arena) (j n : ℕ) (x : Node) → CallsBelow j (tree_at a.nodes n) → tree_at a.nodes n ≡ shape (tree_at a.nodes) x → CallsEarlier j x
call_earlier a j n x k e = earlier_node a j n x (rw e at k)

-- ## The expression

starts_few : (n : ℕ) (cs : Cores) → length (starts n cs) ≤ count_all cs
starts_few n no_cores = omega arith
starts_few n (core c cs) =
    let one = count_pos c in
    let more = starts_few (n + count c) cs in
    omega (arith, one, more)

pub begins : (a : Arena) → IsScript a → CallsBelow (length a.nodes) (tree_at a.nodes 0)
begins a s =
    let ts = trees_at a.nodes a.tasks in
    let each = tasks_length a s in
    let placed : length a.tasks ≡ length (starts (count (tree_at a.nodes 0)) ts) = ap length s.placed in
    let few = starts_few (count (tree_at a.nodes 0)) ts in
    let numbered : length a.nodes ≡ length (layout_all 0 (trees_of (script_of a))) = ap length s.numbered in
    let counted = length-layout_all 0 (trees_of (script_of a)) in
    closed_below (length a.web) (length a.cells) (length a.nodes) s.parameters (omega (arith, each, placed, few, numbered, counted)) 0 _ (tree_at a.nodes 0) s.closed
