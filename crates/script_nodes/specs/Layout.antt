-- A tree as a list of nodes in pre-order, from a number on.
use Rattle.std.specs.Prelude.{ℕ, ◌+◌, List, [], ◌∷◌, ◌++◌}
use Rattle.script_value.specs.Val.{Val, number, truth, text, symbol, list, items_of}
use Rattle.script_value.specs.declared.value.Value.{Value}
use Rattle.script_value.specs.declared.value.Value.TheVariants as value
use Rattle.script_nodes.specs.declared.script.Node.{Node}
use Rattle.script_nodes.specs.declared.script.Node.TheVariants as node
use Rattle.script_nodes.specs.Core.{Core, Cores, lit, var, bind, branch, repeat, prim, call, seq, and_all, or_any, send, finish, back, isolate, cell_ref, cell_shadow, inst_ref, inst_set, inst_add, no_cores, core, count, count_all}

-- the value that a tree of values is
abbrev pub value_from : Val → Value
value_from (number n) = value.Int n
value_from (truth b) = value.Truth b
value_from (text t) = value.Text t
value_from (symbol s) = value.Symbol s
value_from (list vs) = value.List (items_of vs)

-- the numbers of trees that stand one after the other
abbrev pub starts : ℕ → Cores → List ℕ
starts n no_cores = []
starts n (core c cs) = n ∷ starts (n + count c) cs

-- the nodes of a tree whose first has the number n
abbrev mutual
  pub layout : ℕ → Core → List Node
  layout n (lit v) = node.Lit (value_from v) ∷ []
  layout n (var k) = node.Var k ∷ []
  layout n (bind es b) =
      node.Let (starts (n + 1) es) (n + 1 + count_all es) ∷ (layout_all (n + 1) es ++ layout (n + 1 + count_all es) b)
  layout n (branch t a b) =
      node.If (n + 1) (n + 1 + count t) (n + 1 + count t + count a)
      ∷ (layout (n + 1) t ++ (layout (n + 1 + count t) a ++ layout (n + 1 + count t + count a) b))
  layout n (repeat e b) = node.For (n + 1) (n + 1 + count e) ∷ (layout (n + 1) e ++ layout (n + 1 + count e) b)
  layout n (prim o es) = node.Prim o (starts (n + 1) es) ∷ layout_all (n + 1) es
  layout n (call k es) = node.Call k (starts (n + 1) es) ∷ layout_all (n + 1) es
  layout n (seq es) = node.Seq (starts (n + 1) es) ∷ layout_all (n + 1) es
  layout n (and_all es) = node.And (starts (n + 1) es) ∷ layout_all (n + 1) es
  layout n (or_any es) = node.Or (starts (n + 1) es) ∷ layout_all (n + 1) es
  layout n (send kind b) = node.Send kind (n + 1) ∷ layout (n + 1) b
  layout n (finish b) = node.Finish (n + 1) ∷ layout (n + 1) b
  layout n (back b) = node.Back (n + 1) ∷ layout (n + 1) b
  layout n (isolate b) = node.Isolate (n + 1) ∷ layout (n + 1) b
  layout n (cell_ref c) = node.CellRef c ∷ []
  layout n (cell_shadow c e) = node.CellShadow c (n + 1) ∷ layout (n + 1) e
  layout n (inst_ref c) = node.InstRef c ∷ []
  layout n (inst_set c e) = node.InstSet c (n + 1) ∷ layout (n + 1) e
  layout n (inst_add c e) = node.InstAdd c (n + 1) ∷ layout (n + 1) e

  -- the nodes of these trees, one tree after the other, from a number on
  pub layout_all : ℕ → Cores → List Node
  layout_all n no_cores = []
  layout_all n (core c cs) = layout n c ++ layout_all (n + count c) cs
