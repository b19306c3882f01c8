-- A script as a list of nodes, each before its parts, and the trees that it stands for.
use Rattle.std.specs.Prelude.{◌≡◌, ℕ, zero, suc, ◌<◌, List, [], ◌∷◌, ◌++◌, map, length, take, drop, Option, Some, None, slice_get, false, IsTrue, ⊤, refl}
use Rattle.std.specs.Coded.{Coded, coded_list, coded×, coded_ℕ, code_by}
use Rattle.script_value.specs.Val.{Val, truth}
use Rattle.script_value.specs.ValCode.{val_code}
use Rattle.script_value.specs.Views.{meaning}
use Rattle.prim_spec.specs.Table.{takes}
use Rattle.script_nodes.specs.declared.script.Node.{Node}
use Rattle.script_nodes.specs.declared.script.Node.TheVariants as node
use Rattle.script_nodes.specs.Core.{Core, lit, var, bind, branch, repeat, prim, call, seq, and_all, or_any, send, finish, back, isolate, cell_ref, cell_shadow, inst_ref, inst_set, inst_add, cores_of, count, Cores}
use Rattle.script_nodes.specs.Closed.{IsClosed, AreBodies}
use Rattle.script_nodes.specs.Layout.{layout, layout_all, starts}
use Rattle.script_nodes.specs.Setup.{Script, trees_of}

-- the nodes in pre-order, what the web cells and the instance cells begin with, and the first nodes of the bodies of tasks
pub record Arena : Type 0 where
  pub nodes : List Node
  pub web : List Val
  pub cells : List Val
  pub tasks : List ℕ

-- the parts of a script: its nodes, its web cells, its instance cells and its tasks
abbrev parted : Arena → List Node × (List Val × (List Val × List ℕ))
parted a = (a.nodes, (a.web, (a.cells, a.tasks)))

-- the script of these nodes, web cells, instance cells and tasks
abbrev joined : List Node × (List Val × (List Val × List ℕ)) → Arena
joined p = record { nodes = p.0; web = p.1.0; cells = p.1.1.0; tasks = p.1.1.1 }

-- a code of scripts, by a code of their nodes
abbrev pub arena_code : Coded Node → Coded Arena
arena_code c =
    code_by (List Node × (List Val × (List Val × List ℕ))) (coded× (coded_list c) (coded× (coded_list val_code) (coded× (coded_list val_code) (coded_list coded_ℕ))))
    parted joined (λ _. refl)

-- the parts of a node; the body of a task that it calls is none of them
abbrev pub parts : Node → List ℕ
parts (node.Lit v) = []
parts (node.Var k) = []
parts (node.Let bindings body) = bindings ++ body ∷ []
parts (node.Seq ps) = ps
parts (node.If test a b) = test ∷ a ∷ b ∷ []
parts (node.And ps) = ps
parts (node.Or ps) = ps
parts (node.For count body) = count ∷ body ∷ []
parts (node.Prim o ps) = ps
parts (node.Call k ps) = ps
parts (node.Send kind body) = body ∷ []
parts (node.Finish body) = body ∷ []
parts (node.Back body) = body ∷ []
parts (node.Isolate body) = body ∷ []
parts (node.CellRef c) = []
parts (node.CellShadow c value) = value ∷ []
parts (node.InstRef c) = []
parts (node.InstSet c value) = value ∷ []
parts (node.InstAdd c value) = value ∷ []

-- an operation has as many operands as its row takes
abbrev pub IsFull : Node → Type 0
IsFull (node.Prim o ps) = IsTrue (takes o (length ps))
IsFull _ = ⊤

-- the cell that a node names is one of so many web cells, or of so many instance cells
abbrev pub IsOnCells : (web cells : ℕ) → Node → Type 0
IsOnCells web cells (node.CellRef c) = c < web
IsOnCells web cells (node.CellShadow c value) = c < web
IsOnCells web cells (node.InstRef c) = c < cells
IsOnCells web cells (node.InstSet c value) = c < cells
IsOnCells web cells (node.InstAdd c value) = c < cells
IsOnCells web cells _ = ⊤

-- the task that a node calls is one of so many
abbrev pub IsOnTasks : (tasks : ℕ) → Node → Type 0
IsOnTasks tasks (node.Call k ps) = k < tasks
IsOnTasks tasks _ = ⊤

-- a part stands after its node and in the script
abbrev pub IsBehind : ℕ → ℕ → ℕ → Type 0
IsBehind n end p = (n < p) × (p < end)

-- the tree of a node, where the trees of its parts are given
abbrev pub shape : (ℕ → Core) → Node → Core
shape part (node.Lit v) = lit (meaning v)
shape part (node.Var k) = var k
shape part (node.Let bindings body) = bind (cores_of (map part bindings)) (part body)
shape part (node.Seq ps) = seq (cores_of (map part ps))
shape part (node.If test a b) = branch (part test) (part a) (part b)
shape part (node.And ps) = and_all (cores_of (map part ps))
shape part (node.Or ps) = or_any (cores_of (map part ps))
shape part (node.For count body) = repeat (part count) (part body)
shape part (node.Prim o ps) = prim o (cores_of (map part ps))
shape part (node.Call k ps) = call k (cores_of (map part ps))
shape part (node.Send kind body) = send kind (part body)
shape part (node.Finish body) = finish (part body)
shape part (node.Back body) = back (part body)
shape part (node.Isolate body) = isolate (part body)
shape part (node.CellRef c) = cell_ref c
shape part (node.CellShadow c value) = cell_shadow c (part value)
shape part (node.InstRef c) = inst_ref c
shape part (node.InstSet c value) = inst_set c (part value)
shape part (node.InstAdd c value) = inst_add c (part value)

-- the tree of a node over the trees of its parts; without a node, a literal
abbrev pub shape_at : (ℕ → Core) → Option Node → Core
shape_at part None = lit (truth false)
shape_at part (Some x) = shape part x

-- the tree at a number, no deeper than the bound
unfoldable pub tree_within : ℕ → List Node → ℕ → Core
tree_within zero nodes n = lit (truth false)
tree_within (suc bound) nodes n = shape_at (tree_within bound nodes) (slice_get nodes n)

-- the tree at a number; a script is no deeper than it has nodes
unfoldable pub tree_at : List Node → ℕ → Core
tree_at nodes n = tree_within (length nodes) nodes n

-- the trees at these numbers
abbrev pub trees_at : List Node → List ℕ → Cores
trees_at nodes ns = cores_of (map (tree_at nodes) ns)

-- what a script means: its cells, the tree of its first node, and those of its tasks
abbrev pub script_of : Arena → Script
script_of a = record { web = a.web; cells = a.cells; tasks = trees_at a.nodes a.tasks; body = tree_at a.nodes 0 }

-- a script as its nodes in pre-order, those of the bodies of tasks after those of the expression
abbrev pub arena_of : Script → Arena
arena_of s = record { nodes = layout_all 0 (trees_of s); web = s.web; cells = s.cells; tasks = starts (count s.body) s.tasks }

-- the nodes from a number on are those of the tree there, in pre-order
abbrev pub IsLaidAt : List Node → ℕ → Type 0
IsLaidAt nodes n = take (count (tree_at nodes n)) (drop n nodes) ≡ layout n (tree_at nodes n)

-- the nodes are those of the trees in pre-order; the trees are closed with these cells, the expression over no variable, and each body
-- over its task's parameters and with the tasks before it
pub record IsScript (a : Arena) : Type 0 where
  pub numbered : a.nodes ≡ layout_all 0 (trees_of (script_of a))
  pub placed : a.tasks ≡ starts (count (tree_at a.nodes 0)) (trees_at a.nodes a.tasks)
  pub parameters : List ℕ
  pub closed : IsClosed (length a.web) (length a.cells) parameters 0 false (tree_at a.nodes 0)
  pub bodies : AreBodies (length a.web) (length a.cells) [] parameters (trees_at a.nodes a.tasks)
