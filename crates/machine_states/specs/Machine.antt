-- The machine: a step visits a node, or gives a value to the innermost frame.
use Rattle.std.specs.Prelude.{ℕ, zero, suc, ◌-◌, ℤ, pos, negsuc, List, [], ◌∷◌, ◌++◌, length, take, drop, slice_get, unwrap_or, Result, Ok, Err, true, false}
use Rattle.script_value.specs.Val.{Val, number, truth}
use Rattle.script_value.specs.Views.{meaning}
use Rattle.script_value.specs.declared.value.Value.TheVariants.{Truth}
use Rattle.script_value.specs.declared.outcome.Op.{Op}
use Rattle.script_value.specs.declared.outcome.Op.TheVariants as op
use Rattle.script_value.specs.declared.outcome.Fault.{Fault}
use Rattle.script_value.specs.declared.outcome.Fault.TheVariants.{WrongType}
use Rattle.script_value.specs.declared.outcome.TxName.{TxName}
use Rattle.script_nodes.specs.PrimSpec.Table.{value_of, is_false}
use Rattle.script_nodes.specs.PrimSpec.Lists.{list_of}
use Rattle.script_nodes.specs.declared.script.Node.{Node}
use Rattle.script_nodes.specs.declared.script.Node.TheVariants as node
use Rattle.script_nodes.specs.declared.script.SendKind.{SendKind}
use Rattle.script_nodes.specs.Arena.{Arena, parts}
use Rattle.replay_spec.specs.Tape.{State, finishes, ends, Outcome, End, got, stop, Run, ◌>>=◌, ◌>>◌, give, fail, answer, choose, charge, url, halt, send_page, enter, leave, lookup, shadow, read_cell, set_cell, add_cell, as_number}
use Rattle.replay_spec.specs.Eval.{value_at, copied, is_not_false}

-- Which part of a node is worked on: a binding or an operand after the values of those that are done; a body under so many
-- variables; the part of this number; the count of turns; a turn of so many, after the values of those that are done; what a
-- cell is given; what stands in a transaction; an operand of a call; the body of the task that is called, as the part of this number,
-- and the variables of the caller. The body of a page that is sent, or of a last page, is never kept.
pub data Frame : Type 0 where
  in_binding in_operand : (node : ℕ) → (done : List Val) → Frame
  in_body : (node bound : ℕ) → Frame
  in_seq in_and in_or in_if : (node part : ℕ) → Frame
  in_count in_store : (node : ℕ) → Frame
  in_turn : (node turns : ℕ) → (done : List Val) → Frame
  in_isolate : (node : ℕ) → TxName → Frame
  in_call : (node : ℕ) → (done : List Val) → Frame
  in_task : (node part : ℕ) → (outer : List Val) → Frame
  in_page : (node : ℕ) → SendKind → Frame
  in_finish in_back : (node : ℕ) → Frame

-- a node is visited, or a value is given to the innermost frame
pub data Control : Type 0 where
  visit : (node : ℕ) → Control
  value : Val → Control

-- where a machine is, the innermost frame first
pub record Point : Type 0 where
  pub control : Control
  pub env : List Val
  pub frames : List Frame

-- the transactions that are entered, the outermost first
abbrev pub inside_of : List Frame → List TxName
inside_of [] = []
inside_of (in_isolate n name ∷ fs) = inside_of fs ++ name ∷ []
inside_of (f ∷ fs) = inside_of fs

-- a node is next, within these variables and frames
abbrev pub visits : ℕ → List Val → List Frame → Run Point
visits n env fs = give (record { control = visit n; env = env; frames = fs })

-- a value is given to the innermost of these frames
abbrev pub gives : Val → List Val → List Frame → Run Point
gives v env fs = give (record { control = value v; env = env; frames = fs })

-- the value that a run gives is given to the innermost frame
abbrev pub given : Run Val → List Val → List Frame → Run Point
given r env fs = do
  v ← r
  gives v env fs

-- the node of a number; where there is none, #f
abbrev pub node_at : Arena → ℕ → Node
node_at a n = unwrap_or (slice_get a.nodes n) (node.Lit (Truth false))

-- the number of a node's part; 0 where it has no such part
abbrev pub part_in : Node → ℕ → ℕ
part_in x k = unwrap_or (slice_get (parts x) k) 0

-- the number of a part of the node at a place
abbrev pub part_at : Arena → (node part : ℕ) → ℕ
part_at a n k = part_in (node_at a n) k

-- the parts of a node from this one on
abbrev pub parts_from : Arena → (node part : ℕ) → List ℕ
parts_from a n k = drop k (parts (node_at a n))

-- the numbers of the expressions that a `let` binds
abbrev pub bindings_in : Node → List ℕ
bindings_in (node.Let bindings body) = bindings
bindings_in _ = []

-- the bindings of the node at a place, from this one on
abbrev pub bindings_from : Arena → (node part : ℕ) → List ℕ
bindings_from a n k = drop k (bindings_in (node_at a n))

-- the number of the body of a `let` or a `for/list`
abbrev pub body_in : Node → ℕ
body_in (node.Let bindings body) = body
body_in (node.For count body) = body
body_in _ = 0

-- the number of the body of the node at a place
abbrev pub body_at : Arena → ℕ → ℕ
body_at a n = body_in (node_at a n)

-- the operation of a node; of another node, `list`
abbrev pub op_in : Node → Op
op_in (node.Prim o ps) = o
op_in _ = op.List

-- the operation of the node at a place
abbrev pub op_at : Arena → ℕ → Op
op_at a n = op_in (node_at a n)

-- the first node of a task's body
abbrev pub first_of : Arena → (task : ℕ) → ℕ
first_of a k = unwrap_or (slice_get a.tasks k) 0

-- the task that a node calls
abbrev pub task_in : Node → ℕ
task_in (node.Call k ps) = k
task_in _ = 0

-- the first node of the body of the task that a node calls
abbrev pub task_at : Arena → ℕ → ℕ
task_at a n = first_of a (task_in (node_at a n))

-- what a node does with the value that it stores
abbrev pub store_by : Node → List TxName → Val → Run Val
store_by (node.CellShadow c e) inside v = shadow c v
store_by (node.InstSet c e) inside v = set_cell c v
store_by (node.InstAdd c e) inside v = add_cell inside c v
store_by _ inside v = give v

-- a visit of the first of the bindings that are left; where none is left, of the body
abbrev pub next_binding : (node : ℕ) → (left : List ℕ) → (body : ℕ) → (done env : List Val) → List Frame → Run Point
next_binding n [] b done env fs = visits b (env ++ done) (in_body n (length done) ∷ fs)
next_binding n (p ∷ ps) b done env fs = visits p env (in_binding n done ∷ fs)

-- a visit of the first of the parts that are left, in this frame; where none is left, the value of the last is given
abbrev pub next_part : Frame → (left : List ℕ) → Val → List Val → List Frame → Run Point
next_part f [] v env fs = gives v env fs
next_part f (p ∷ ps) v env fs = visits p env (f ∷ fs)

-- a visit of the first of the operands that are left; where none is left, the operation is done
abbrev pub next_operand : (node : ℕ) → Op → (left : List ℕ) → (done env : List Val) → List Frame → Run Point
next_operand n o [] done env fs = given (answer (inside_of fs) (value_of o done)) env fs
next_operand n o (p ∷ ps) done env fs = visits p env (in_operand n done ∷ fs)

-- a visit of the first of the operands that are left; where none is left, of the task's body, whose variables are their values alone
abbrev pub next_argument : (node body : ℕ) → (left : List ℕ) → (done env : List Val) → List Frame → Run Point
next_argument n b [] done env fs = visits b done (in_task n (length done) env ∷ fs)
next_argument n b (p ∷ ps) done env fs = visits p env (in_call n done ∷ fs)

-- a visit of the body for the next of the turns; where none is left, the list of their values is given
abbrev pub next_turn : (node turns body left : ℕ) → (done env : List Val) → List Frame → Run Point
next_turn n turns b zero done env fs = given (answer (inside_of fs) (list_of done)) env fs
next_turn n turns b (suc k) done env fs = visits b (env ++ number (pos (length done)) ∷ []) (in_turn n turns done ∷ fs)

-- the first of as many turns as this number says; the fault where it is negative or none
abbrev pub first_turn : (node body : ℕ) → Result ℤ Fault → List Val → List Frame → Run Point
first_turn n b (Ok (pos k)) env fs = next_turn n k b k [] env fs
first_turn n b (Ok (negsuc k)) env fs = given (fail (inside_of fs) WrongType) env fs
first_turn n b (Err k) env fs = given (fail (inside_of fs) k) env fs

-- a visit of a node, which is charged
abbrev pub visited : Arena → (node : ℕ) → Node → List Val → List Frame → Run Point
visited a n (node.Lit v) env fs = given (copied (inside_of fs) (meaning v)) env fs
visited a n (node.Var k) env fs = given (copied (inside_of fs) (value_at env k)) env fs
visited a n (node.Let ps b) env fs = charge (inside_of fs) 1 >> next_binding n ps b [] env fs
visited a n (node.Seq ps) env fs = charge (inside_of fs) 1 >> next_part (in_seq n 0) ps (truth false) env fs
visited a n (node.If t x y) env fs = charge (inside_of fs) 1 >> visits t env (in_if n 0 ∷ fs)
visited a n (node.And ps) env fs = charge (inside_of fs) 1 >> next_part (in_and n 0) ps (truth true) env fs
visited a n (node.Or ps) env fs = charge (inside_of fs) 1 >> next_part (in_or n 0) ps (truth false) env fs
visited a n (node.For c b) env fs = charge (inside_of fs) 1 >> visits c env (in_count n ∷ fs)
visited a n (node.Prim o ps) env fs = charge (inside_of fs) 1 >> next_operand n o ps [] env fs
visited a n (node.Call k ps) env fs = charge (inside_of fs) 1 >> next_argument n (first_of a k) ps [] env fs
visited a n (node.Send kind b) env fs = charge (inside_of fs) 1 >> (url >>= λ u. visits b (env ++ u ∷ []) (in_page n kind ∷ fs))
visited a n (node.Finish b) env fs = charge (inside_of fs) 1 >> visits b env (in_finish n ∷ fs)
visited a n (node.Back b) env fs = charge (inside_of fs) 1 >> visits b env (in_back n ∷ fs)
visited a n (node.Isolate b) env fs = enter (inside_of fs) >>= λ name. visits b env (in_isolate n name ∷ fs)
visited a n (node.CellRef c) env fs = given (lookup c >>= copied (inside_of fs)) env fs
visited a n (node.CellShadow c e) env fs = charge (inside_of fs) 1 >> visits e env (in_store n ∷ fs)
visited a n (node.InstRef c) env fs = given (read_cell c >>= copied (inside_of fs)) env fs
visited a n (node.InstSet c e) env fs = charge (inside_of fs) 1 >> visits e env (in_store n ∷ fs)
visited a n (node.InstAdd c e) env fs = charge (inside_of fs) 1 >> visits e env (in_store n ∷ fs)

-- the variables outside a frame's part
abbrev pub cut : Frame → List Val → List Val
cut (in_body n bound) env = take (length env - bound) env
cut (in_turn n turns done) env = take (length env - 1) env
cut (in_task n k outer) env = outer
cut (in_page n kind) env = take (length env - 1) env
cut _ env = env

-- a frame takes the value of its part, with the variables outside
abbrev pub taken : Arena → Frame → Val → List Val → List Frame → Run Point
taken a (in_binding n done) v env fs = next_binding n (bindings_from a n (suc (length done))) (body_at a n) (done ++ v ∷ []) env fs
taken a (in_operand n done) v env fs = next_operand n (op_at a n) (parts_from a n (suc (length done))) (done ++ v ∷ []) env fs
taken a (in_call n done) v env fs = next_argument n (task_at a n) (parts_from a n (suc (length done))) (done ++ v ∷ []) env fs
taken a (in_task n k outer) v env fs = gives v env fs
taken a (in_body n bound) v env fs = gives v env fs
taken a (in_seq n k) v env fs = next_part (in_seq n (suc k)) (parts_from a n (suc k)) v env fs
taken a (in_and n k) v env fs = choose (is_not_false v) (next_part (in_and n (suc k)) (parts_from a n (suc k)) v env fs) (gives v env fs)
taken a (in_or n k) v env fs = choose (is_false v) (next_part (in_or n (suc k)) (parts_from a n (suc k)) v env fs) (gives v env fs)
taken a (in_if n zero) v env fs = choose (is_false v) (visits (part_at a n 2) env (in_if n 2 ∷ fs)) (visits (part_at a n 1) env (in_if n 1 ∷ fs))
taken a (in_if n (suc k)) v env fs = gives v env fs
taken a (in_count n) v env fs = first_turn n (body_at a n) (as_number v) env fs
taken a (in_turn n turns done) v env fs = next_turn n turns (body_at a n) (turns - suc (length done)) (done ++ v ∷ []) env fs
taken a (in_store n) v env fs = given (store_by (node_at a n) (inside_of fs) v) env fs
taken a (in_isolate n name) v env fs = given (leave name v) env fs
taken a (in_page n kind) v env fs = given (send_page (inside_of fs) kind v) env fs
taken a (in_finish n) v env fs = given (halt (inside_of fs) finishes v) env fs
taken a (in_back n) v env fs = given (halt (inside_of fs) ends v) env fs

-- what a machine does next; where no frame is left the value ends the script
abbrev pub next : Arena → Control → List Val → List Frame → Run Point
next a (visit n) env fs = visited a n (node_at a n) env fs
next a (value v) env [] = given (halt [] ends v) env []
next a (value v) env (f ∷ fs) = taken a f v (cut f env) fs

-- the variables that are left of a step: those outside the part of the frame that takes a value, or else all
abbrev pub outer_env : Control → List Val → List Frame → List Val
outer_env (value v) env (f ∷ fs) = cut f env
outer_env _ env fs = env

-- the frames that are left of a step: those outside the frame that takes a value, or else all
abbrev pub outer_frames : Control → List Frame → List Frame
outer_frames (value v) (f ∷ fs) = fs
outer_frames _ fs = fs

-- a machine: the point where it is, and how far it has used its tape
pub record Machine : Type 0 where
  pub point : Point
  pub state : State

-- what is kept of a machine that stops
pub record Suspended : Type 0 where
  pub env : List Val
  pub frames : List Frame
  pub shadows : List (ℕ × Val)

-- a machine goes on, or it stopped inside these transactions
pub data Step : Type 0 where
  goes : Machine → Step
  stopped : Outcome → (entered : List TxName) → Suspended → State → Step

-- what a step comes to: the machine goes on, or stops with what is kept of it
abbrev pub stepped : List Val → List Frame → End Point → Step
stepped env fs (got p state) = goes (record { point = p; state = state })
stepped env fs (stop o entered state) = stopped o entered (record { env = env; frames = fs; shadows = state.shadows }) state

-- a step of a machine that is at this control, within these variables and frames
abbrev pub step_at : Arena → Control → List Val → List Frame → State → Step
step_at a c env fs state = stepped (outer_env c env fs) (outer_frames c fs) (next a c env fs state)

-- one step of a machine
abbrev pub step : Arena → Machine → Step
step a m = step_at a m.point.control m.point.env m.point.frames m.state

-- goes on with a machine that goes on; one that stopped stays as it is
abbrev pub then : (Machine → Step) → Step → Step
then f (goes m) = f m
then f (stopped o entered kept state) = stopped o entered kept state

-- a machine after so many steps, or fewer to a stop
abbrev pub steps : Arena → ℕ → Machine → Step
steps a zero m = goes m
steps a (suc k) m = then (steps a k) (step a m)
