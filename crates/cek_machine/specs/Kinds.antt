-- Which frames of the program stand on their nodes.
use Rattle.std.specs.Prelude.{ℕ, ◌<◌, length, ⊤}
use Rattle.script_nodes.specs.declared.script.Node.{Node}
use Rattle.script_nodes.specs.declared.script.Node.TheVariants as node
use Rattle.script_nodes.specs.Arena.{Arena, parts}
use Rattle.machine_states.specs.Machine.{node_at, bindings_in}
use Rattle.machine_states.specs.declared.frame.Frame.{Frame}
use Rattle.machine_states.specs.declared.frame.Frame.TheVariants as frame

-- a node is a sequence, a conjunction or a disjunction
abbrev pub IsRow : Node → Type 0
IsRow (node.Seq ps) = ⊤
IsRow (node.And ps) = ⊤
IsRow (node.Or ps) = ⊤
IsRow _ = ⊥

-- a node is a `let`
abbrev pub IsLet : Node → Type 0
IsLet (node.Let bindings body) = ⊤
IsLet _ = ⊥

-- a node is an operation
abbrev pub IsPrim : Node → Type 0
IsPrim (node.Prim o ps) = ⊤
IsPrim _ = ⊥

-- a node is a call of a task
abbrev pub IsCall : Node → Type 0
IsCall (node.Call k ps) = ⊤
IsCall _ = ⊥

-- a node is an `if`
abbrev pub IsIf : Node → Type 0
IsIf (node.If test a b) = ⊤
IsIf _ = ⊥

-- a node is a `for/list`
abbrev pub IsFor : Node → Type 0
IsFor (node.For count body) = ⊤
IsFor _ = ⊥

-- a node writes a web cell or an instance cell
abbrev pub IsStore : Node → Type 0
IsStore (node.CellShadow c e) = ⊤
IsStore (node.InstSet c e) = ⊤
IsStore (node.InstAdd c e) = ⊤
IsStore _ = ⊥

-- the node of a number is there and of this kind
abbrev pub IsNodeAt : Arena → (Node → Type 0) → (node : ℕ) → Type 0
IsNodeAt a IsKind n = (n < length a.nodes) × IsKind (node_at a n)

-- at a node stands a sequence, a conjunction or a disjunction that has this part
abbrev pub IsRowAt : Arena → (node part : ℕ) → Type 0
IsRowAt a n k = IsNodeAt a IsRow n × (k < length (parts (node_at a n)))

-- at a node stands an operation that has this operand
abbrev pub IsPrimAt : Arena → (node part : ℕ) → Type 0
IsPrimAt a n k = IsNodeAt a IsPrim n × (k < length (parts (node_at a n)))

-- at a node stands a call that has this operand
abbrev pub IsCallAt : Arena → (node part : ℕ) → Type 0
IsCallAt a n k = IsNodeAt a IsCall n × (k < length (parts (node_at a n)))

-- at a node stands a Let that has this binding
abbrev pub IsLetAt : Arena → (node part : ℕ) → Type 0
IsLetAt a n k = IsNodeAt a IsLet n × (k < length (bindings_in (node_at a n)))

-- a frame stands on a node of its kind, in a part that is there
abbrev pub Stands : Arena → Frame → Type 0
Stands a (frame.Binding n done) = IsLetAt a n (length done)
Stands a (frame.Operand n done) = IsPrimAt a n (length done)
Stands a (frame.Call n done) = IsCallAt a n (length done)
Stands a (frame.Seq n k) = IsRowAt a n k
Stands a (frame.And n k) = IsRowAt a n k
Stands a (frame.Or n k) = IsRowAt a n k
Stands a (frame.If n k) = IsNodeAt a IsIf n
Stands a (frame.Count n) = IsNodeAt a IsFor n
Stands a (frame.Turn n turns done) = IsNodeAt a IsFor n
Stands a (frame.Store n) = IsNodeAt a IsStore n
Stands a _ = ⊤
