-- Whether a state fits a script, as a walk over its frames from the outermost.
use Rattle.std.specs.Prelude.{ℕ, ◌+◌, ◌==◌, ◌&&◌, Bool, true, false, pos, List, [], ◌∷◌, length, slice_get, Option, Some, None, nat_le, nat_lt, if◌then◌else◌}
use Rattle.script_value.specs.Val.{Val, number}
use Rattle.script_value.specs.Pieces.{◌>>=◌}
use Rattle.script_nodes.specs.declared.script.Node.{Node}
use Rattle.script_nodes.specs.declared.script.Node.TheVariants as node
use Rattle.script_nodes.specs.Arena.{Arena}
use Rattle.machine_states.specs.Machine.{Frame, in_binding, in_operand, in_body, in_seq, in_and, in_or, in_if, in_count, in_store, in_turn, in_isolate, in_call, in_task, node_at, first_of}
use Rattle.machine_states.specs.Fits.{node_of}

-- the operands of a call
abbrev pub operands_in : Node → List ℕ
operands_in (node.Call t ps) = ps
operands_in _ = []

-- the part of a node that a frame works on; none where the frame is not of the node's kind, or is the body of a page
abbrev pub part_worked : Arena → Node → Frame → Option ℕ
part_worked a (node.Let bindings body) (in_binding n done) = slice_get bindings (length done)
part_worked a (node.Let bindings body) (in_body n bound) = if bound == length bindings then Some body else None
part_worked a (node.Seq ps) (in_seq n k) = slice_get ps k
part_worked a (node.If test x y) (in_if n k) = slice_get (test ∷ x ∷ y ∷ []) k
part_worked a (node.And ps) (in_and n k) = slice_get ps k
part_worked a (node.Or ps) (in_or n k) = slice_get ps k
part_worked a (node.Prim o ps) (in_operand n done) = slice_get ps (length done)
part_worked a (node.For count body) (in_count n) = Some count
part_worked a (node.For count body) (in_turn n turns done) = if nat_lt (length done) turns then Some body else None
part_worked a (node.CellShadow c e) (in_store n) = Some e
part_worked a (node.InstSet c e) (in_store n) = Some e
part_worked a (node.InstAdd c e) (in_store n) = Some e
part_worked a (node.Isolate body) (in_isolate n name) = Some body
part_worked a (node.Call t ps) (in_call n done) = slice_get ps (length done)
part_worked a (node.Call t ps) (in_task n k outer) = if k == length ps then Some (first_of a t) else None
part_worked a _ _ = None

-- how many variables there are with the one of a turn; none where that is not the number of the turn
abbrev pub numbered : (turn scope : ℕ) → Option Val → Option ℕ
numbered turn k (Some (number (pos m))) = if m == turn then Some (k + 1) else None
numbered turn k _ = None

-- how many variables there are in a frame's part, where there are so many outside; none where they are not those of the frame
abbrev pub scope_in : Frame → List Val → ℕ → Option ℕ
scope_in (in_body n bound) env k = if nat_le (k + bound) (length env) then Some (k + bound) else None
scope_in (in_turn n turns done) env k = numbered (length done) k (slice_get env k)
scope_in (in_task n part outer) env k = if k == length outer && nat_le part (length env) then Some part else None
scope_in _ env k = Some k

-- the variables outside a frame, where those inside are these: a body of a task has its own
abbrev pub env_before : Frame → List Val → List Val
env_before (in_task n part outer) env = outer
env_before f env = env

-- the variables of what frames stand in, the outermost frame first
abbrev pub env_of : List Val → List Frame → List Val
env_of env [] = env
env_of env (f ∷ fs) = env_before f (env_of env fs)

-- a node that has to be worked on, and how many variables are in scope there
pub record Place : Type 0 where
  pub node : ℕ
  pub scope : ℕ

-- the node and the scope that are left to what stands in a frame
abbrev pub enters : Arena → List Val → Place → Frame → Option Place
enters a env p f =
    if p.node == node_of f then (do
      part ← part_worked a (node_at a (node_of f)) f
      scope ← scope_in f env p.scope
      Some (record { node = part; scope = scope })
    ) else None

-- the node and the scope after frames, the outermost first
abbrev pub walk : Arena → List Val → Place → List Frame → Option Place
walk a env p [] = Some p
walk a env p (f ∷ fs) = do
  next ← enters a (env_of env fs) p f
  walk a env next fs

-- the place of a whole script, within no variable
abbrev pub outermost : Place
outermost = record { node = 0; scope = 0 }

-- whether a node sends a page and waits for its answer
abbrev pub is_send : Node → Bool
is_send (node.Send kind body) = true
is_send _ = false

-- the walk ends at a node that sends a page, with all variables
abbrev pub ends_well : Arena → List Val → Option Place → Bool
ends_well a env None = false
ends_well a env (Some p) = p.scope == length env && is_send (node_at a p.node)

-- the frames work on a node that sends a page
abbrev pub frames_fit : Arena → List Val → (outermost_first : List Frame) → Bool
frames_fit a env fs = ends_well a env (walk a env outermost fs)

-- the web cells that are bound are among so many, and rise from this one on
abbrev pub shadows_fit : (least cells : ℕ) → List (ℕ × Val) → Bool
shadows_fit least cells [] = true
shadows_fit least cells (s ∷ ss) = nat_le least s.0 && (nat_lt s.0 cells && shadows_fit (s.0 + 1) cells ss)
