-- Nodes that were put after others.
use Rattle.std.specs.Prelude.{◌≡◌, ℕ, suc, ◌+◌, ◌<◌, ◌≤◌, List, ◌∷◌, ◌++◌, length, Result, Ok, Err, ⊤}
use Rattle.script_nodes.specs.declared.script.Node.{Node}
use Rattle.script_nodes.specs.declared.script.Node.TheVariants as node
use Rattle.core_syntax.specs.declared.heads.LastPage.{LastPage}
use Rattle.core_syntax.specs.declared.heads.LastPage.TheVariants.{Finish, Back}
use Rattle.core_syntax.specs.declared.heads.Store.{Store}
use Rattle.core_syntax.specs.declared.heads.Store.TheVariants.{Shadow, Set, Add}
use Rattle.core_syntax.specs.declared.nodes.LayFault.{LayFault}
use Rattle.core_syntax.specs.declared.nodes.LayFault.TheVariants.{Memory, TooMany}
use Rattle.core_syntax.specs.Limits.{most_nodes, most_levels}
use Rattle.script_nodes.specs.Core.{Core, Cores, core, count, count_all, height, height_all}
use Rattle.script_nodes.specs.Layout.{layout, layout_all, starts}

-- nodes that would come after these are too many, or nest deeper than `left`
abbrev pub Lacks : (before left more high : ℕ) → Type 0
Lacks before left more high = before + more ≤ most_nodes → left < high

-- these nodes were put after the old ones; the first has this number
pub record Stands (old new : List Node) (left number : ℕ) (nodes : List Node) (more high : ℕ) : Type 0 where
  pub first : number ≡ length old
  pub behind : new ≡ old ++ nodes
  pub grown : length new ≡ length old + more
  pub room : length old + more ≤ most_nodes
  pub low : high ≤ left

-- these nodes were put after the old ones, or there was no memory, or they are too many or nest too deep
abbrev pub Puts : Result ℕ LayFault → (old new : List Node) → (left : ℕ) → (nodes : List Node) → (more high : ℕ) → Type 0
Puts (Ok number) old new left nodes more high = Stands old new left number nodes more high
Puts (Err Memory) old new left nodes more high = ⊤
Puts (Err TooMany) old new left nodes more high = Lacks (length old) left more high

-- the nodes of a tree were put after the old ones, or the fault is answered
abbrev pub Lays : Result ℕ LayFault → (old new : List Node) → (left : ℕ) → Core → Type 0
Lays result old new left c = Puts result old new left (layout (length old) c) (count c) (height c)

-- the nodes of trees were put after the old ones; these are the numbers of the trees
pub record StandAll (old new : List Node) (left : ℕ) (numbers : List ℕ) (cs : Cores) : Type 0 where
  pub first : numbers ≡ starts (length old) cs
  pub behind : new ≡ old ++ layout_all (length old) cs
  pub grown : length new ≡ length old + count_all cs
  pub room : 0 < count_all cs → length old + count_all cs ≤ most_nodes
  pub low : height_all cs ≤ left

-- the nodes of these trees were put after the old ones, or there was no memory, or they are too many or nest too deep
abbrev pub LaysAll : Result (List ℕ) LayFault → (old new : List Node) → (left : ℕ) → Cores → Type 0
LaysAll (Ok numbers) old new left cs = StandAll old new left numbers cs
LaysAll (Err Memory) old new left cs = ⊤
LaysAll (Err TooMany) old new left cs = Lacks (length old) left (count_all cs) (height_all cs)

-- a node over these trees, which this function makes of their numbers, and their nodes were put after the old ones
abbrev pub LaysGroup : Result ℕ LayFault → (old new : List Node) → (left : ℕ) → (List ℕ → Node) → Cores → Type 0
LaysGroup result old new left f cs =
    Puts result old new left (f (starts (length old + 1) cs) ∷ layout_all (length old + 1) cs) (suc (count_all cs)) (suc (height_all cs))

-- the nodes of an expression, and then those of bodies, were put after the old ones; these are the numbers of the bodies
pub record StandScript (old new : List Node) (numbers : List ℕ) (c : Core) (cs : Cores) : Type 0 where
  pub first : numbers ≡ starts (length old + count c) cs
  pub behind : new ≡ old ++ layout_all (length old) (core c cs)
  pub room : length old + count_all (core c cs) ≤ most_nodes
  pub low : height_all (core c cs) ≤ most_levels

-- the nodes of an expression and of bodies were put after the old ones, or there are too many of them
abbrev pub LaysScript : Result (List ℕ) LayFault → (old new : List Node) → Core → Cores → Type 0
LaysScript (Ok numbers) old new c cs = StandScript old new numbers c cs
LaysScript (Err Memory) old new c cs = ⊤
LaysScript (Err TooMany) old new c cs = Lacks (length old) most_levels (count_all (core c cs)) (height_all (core c cs))

-- the node that sends a last page
abbrev pub last_node : LastPage → ℕ → Node
last_node Finish b = node.Finish b
last_node Back b = node.Back b

-- the node that writes a cell
abbrev pub store_node : Store → ℕ → ℕ → Node
store_node Shadow c e = node.CellShadow c e
store_node Set c e = node.InstSet c e
store_node Add c e = node.InstAdd c e
