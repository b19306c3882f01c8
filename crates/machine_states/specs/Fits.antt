-- Which states fit a script.
use Rattle.std.specs.Prelude.{◌≡◌, ◌<◌, ℕ, pos, List, [], ◌∷◌, ◌++◌, length, Some, slice_get, ⊤}
use Rattle.script_value.specs.Val.{Val, number}
use Rattle.script_nodes.specs.declared.script.Node.{Node}
use Rattle.script_nodes.specs.declared.script.Node.TheVariants as node
use Rattle.script_nodes.specs.Arena.{Arena, parts}
use Rattle.replay_spec.specs.Tape.{Tape}
use Rattle.machine_states.specs.Machine.{Control, visit, value, Frame, in_binding, in_operand, in_body, in_seq, in_and, in_or, in_if, in_count, in_store, in_turn, in_isolate, in_call, in_task, in_page, in_finish, in_back, node_at, first_of, task_in, Suspended}
use Rattle.machine_states.specs.Laws.{IsStateOf}

-- the number of the node that a frame stands on
abbrev pub node_of : Frame → ℕ
node_of (in_binding n done) = n
node_of (in_operand n done) = n
node_of (in_body n bound) = n
node_of (in_seq n k) = n
node_of (in_and n k) = n
node_of (in_or n k) = n
node_of (in_if n k) = n
node_of (in_count n) = n
node_of (in_store n) = n
node_of (in_turn n turns done) = n
node_of (in_isolate n name) = n
node_of (in_call n done) = n
node_of (in_task n k outer) = n
node_of (in_page n kind) = n
node_of (in_finish n) = n
node_of (in_back n) = n

-- the number of the part that a frame works on
abbrev pub place_of : Frame → ℕ
place_of (in_binding n done) = length done
place_of (in_operand n done) = length done
place_of (in_call n done) = length done
place_of (in_task n k outer) = k
place_of (in_body n bound) = bound
place_of (in_seq n k) = k
place_of (in_and n k) = k
place_of (in_or n k) = k
place_of (in_if n k) = k
place_of (in_turn n turns done) = 1
place_of _ = 0

-- a frame is of its node's kind
abbrev pub IsKind : Frame → Node → Type 0
IsKind (in_binding n done) (node.Let bindings body) = length done < length bindings
IsKind (in_body n bound) (node.Let bindings body) = bound ≡ length bindings
IsKind (in_operand n done) (node.Prim o ps) = ⊤
IsKind (in_seq n k) (node.Seq ps) = ⊤
IsKind (in_and n k) (node.And ps) = ⊤
IsKind (in_or n k) (node.Or ps) = ⊤
IsKind (in_if n k) (node.If test a b) = ⊤
IsKind (in_count n) (node.For count body) = ⊤
IsKind (in_turn n turns done) (node.For count body) = length done < turns
IsKind (in_store n) (node.CellShadow c e) = ⊤
IsKind (in_store n) (node.InstSet c e) = ⊤
IsKind (in_store n) (node.InstAdd c e) = ⊤
IsKind (in_isolate n name) (node.Isolate body) = ⊤
IsKind (in_call n done) (node.Call k ps) = length done < length ps
IsKind (in_task n j outer) (node.Call k ps) = j ≡ length ps
IsKind (in_page n kind) (node.Send sent body) = sent ≡ kind
IsKind (in_finish n) (node.Finish body) = ⊤
IsKind (in_back n) (node.Back body) = ⊤
IsKind _ _ = ⊥

-- the part that a frame works on; after the operands of a call it is the body of the task
abbrev pub IsPart : Arena → Frame → Node → ℕ → Type 0
IsPart a (in_task n k outer) x p = p ≡ first_of a (task_in x)
IsPart a f x p = slice_get (parts x) (place_of f) ≡ Some p

-- the variables of a frame's part, and those outside: a body has the parameters of its task alone
abbrev pub Binds : Frame → (outer env : List Val) → Type 0
Binds (in_body n bound) outer env = (vs : List Val) × ((length vs ≡ bound) × (env ≡ outer ++ vs))
Binds (in_turn n turns done) outer env = env ≡ outer ++ number (pos (length done)) ∷ []
Binds (in_task n k saved) outer env = (outer ≡ saved) × (length env ≡ k)
Binds (in_page n kind) outer env = (url : Val) × (env ≡ outer ++ url ∷ [])
Binds _ outer env = env ≡ outer

-- These frames work on this node with these variables: the first node is 0, without a variable, and each other is the part
-- that the frame outside works on.
abbrev pub Works : Arena → List Frame → (node : ℕ) → (env : List Val) → Type 0
Works a [] p env = (p ≡ 0) × (env ≡ [])
Works a (f ∷ fs) p env =
    IsKind f (node_at a (node_of f)) × (IsPart a f (node_at a (node_of f)) p
    × ((outer : List Val) × (Binds f outer env × Works a fs (node_of f) outer)))

-- the variables and the frames of a machine are those of the node that it visits, or whose value it gives
abbrev pub FitsAt : Arena → Control → List Val → List Frame → Type 0
FitsAt a (visit p) env fs = Works a fs p env
FitsAt a (value v) env fs = (p : ℕ) × Works a fs p env

-- a node sends a page that waits for an answer
abbrev pub IsSend : Node → Type 0
IsSend (node.Send kind body) = ⊤
IsSend _ = ⊥

-- the frames that were kept work on a node that sends a page
pub record Fits (a : Arena) (d : Suspended) : Type 0 where
  pub node : ℕ
  pub sends : IsSend (node_at a node)
  pub works : Works a d.frames node d.env

-- Each state that is kept fits its script.
abbrev pub EachStateFits : Type 0
EachStateFits = (a : Arena) (t : Tape) (d : Suspended) → IsStateOf a t d → Fits a d
