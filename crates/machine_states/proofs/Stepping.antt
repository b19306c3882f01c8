-- What a program that steps rests on.
use Rattle.std.proofs.Common.{◌≡◌, ℕ, zero, suc, ◌+◌, ◌*◌, ◌^◌, ◌<◌, ◌≤◌, List, [], ◌∷◌, length, Some, slice_get, refl, subst, arith}
use Rattle.std.specs.List.{AllByRecursion}
use Rattle.script_value.specs.Val.{Val}
use Rattle.script_value.specs.declared.outcome.TxName.{TxName}
use Rattle.script_nodes.specs.declared.script.Node.{Node}
use Rattle.script_nodes.specs.declared.script.Node.TheVariants as node
use Rattle.script_nodes.specs.Arena.{Arena, IsScript, IsBehind, IsOnTasks, parts}
use Rattle.script_nodes.proofs.Scripts.{has_nodes}
use Rattle.replay_spec.specs.Tape.{State, Outcome}
use Rattle.replay_spec.specs.Laws.{Waits}
use Rattle.machine_states.specs.Machine.{Frame, in_binding, in_operand, in_body, in_seq, in_and, in_or, in_if, in_count, in_store, in_turn, in_isolate, in_call, in_task, in_page, in_finish, in_back, first_of, task_in, visit, node_at, Machine, Suspended, Step, goes, stopped, step}
use Rattle.machine_states.specs.Fits.{node_of, IsKind, IsPart, FitsAt, Fits}
use Rattle.machine_states.specs.Dues.{InSegment, owed}
use Rattle.machine_states.proofs.Meaning.{on_tasks}
use Rattle.machine_states.proofs.Ends.{first_within, behind}
use Rattle.machine_states.proofs.Fitting.{FitsStep, step_fits}
use Rattle.machine_states.proofs.Bound.{Pays, step_pays}

-- a machine that fits goes on as one that fits, and stops at a page with a state that fits
pub fits_on : (a : Arena) (m n : Machine) → FitsAt a m.point.control m.point.env m.point.frames → step a m ≡ goes n → FitsAt a n.point.control n.point.env n.point.frames
fits_on a m n w e = subst (λ (x : Step). FitsStep a x) e (step_fits a m.point.control m.point.env m.point.frames m.state w)

pub fits_kept : (a : Arena) (m : Machine) (o : Outcome) (names : List TxName) (d : Suspended) (s : State)
    → FitsAt a m.point.control m.point.env m.point.frames → step a m ≡ stopped o names d s → Waits o → Fits a d
fits_kept a m o names d s w e = subst (λ (x : Step). FitsStep a x) e (step_fits a m.point.control m.point.env m.point.frames m.state w)

-- a step that goes on has paid its due
pub pays_on : (fuel : ℕ) → fuel < 2 ^ 63 → (a : Arena) (m n : Machine) → InSegment fuel m.state → step a m ≡ goes n
    → InSegment fuel n.state × (owed n.point + 1 + 2 * m.state.cost ≤ owed m.point + 2 * n.state.cost)
pays_on fuel h a m n f e = subst (λ (x : Step). Pays fuel (owed m.point) m.state.cost x) e (step_pays fuel h a m.point.control m.point.env m.point.frames m.state f)

-- a part of a node is there
part_there : (n end k p : ℕ) (ps : List ℕ) → AllByRecursion (IsBehind n end) ps → slice_get ps k ≡ Some p → p < end
part_there n end k p [] h e = absurd (cc)
part_there n end zero p (q ∷ ps) h e = let f : q ≡ p = cc in rw f at h.0.1
part_there n end (suc k) p (q ∷ ps) h e = part_there n end k p ps h.1 e

-- so is what a frame works on
frame_there : (a : Arena) → IsScript a → (f : Frame) (p : ℕ) → IsKind f (node_at a (node_of f)) → IsPart a f (node_at a (node_of f)) p → p < length a.nodes
frame_there a i f p kind is = by_frame f kind is
  where
    in_node : (n k : ℕ) → slice_get (parts (node_at a n)) k ≡ Some p → p < length a.nodes
    in_node n k e = part_there n (length a.nodes) k p (parts (node_at a n)) (behind a i n (slice_get a.nodes n) refl) e

    called : (x : Node) (k : ℕ) (outer : List Val) (n : ℕ) → IsOnTasks (length a.tasks) x → IsKind (in_task n k outer) x → p ≡ first_of a (task_in x) → p < length a.nodes
    called (node.Call t ps) k outer n on h e = rw e (first_within a i t on)
    called (node.Lit _) k outer n on h e = absurd h
    called (node.Var _) k outer n on h e = absurd h
    called (node.Let _ _) k outer n on h e = absurd h
    called (node.Seq _) k outer n on h e = absurd h
    called (node.If _ _ _) k outer n on h e = absurd h
    called (node.And _) k outer n on h e = absurd h
    called (node.Or _) k outer n on h e = absurd h
    called (node.For _ _) k outer n on h e = absurd h
    called (node.Prim _ _) k outer n on h e = absurd h
    called (node.Send _ _) k outer n on h e = absurd h
    called (node.Finish _) k outer n on h e = absurd h
    called (node.Back _) k outer n on h e = absurd h
    called (node.Isolate _) k outer n on h e = absurd h
    called (node.CellRef _) k outer n on h e = absurd h
    called (node.CellShadow _ _) k outer n on h e = absurd h
    called (node.InstRef _) k outer n on h e = absurd h
    called (node.InstSet _ _) k outer n on h e = absurd h
    called (node.InstAdd _ _) k outer n on h e = absurd h

    by_frame : (f : Frame) → IsKind f (node_at a (node_of f)) → IsPart a f (node_at a (node_of f)) p → p < length a.nodes
    by_frame (in_task n k outer) kind is = called (node_at a n) k outer n (on_tasks a i n (slice_get a.nodes n) refl) kind is
    by_frame (in_call n done) kind is = in_node n (length done) is
    by_frame (in_binding n done) kind is = in_node n (length done) is
    by_frame (in_operand n done) kind is = in_node n (length done) is
    by_frame (in_body n bound) kind is = in_node n bound is
    by_frame (in_seq n k) kind is = in_node n k is
    by_frame (in_and n k) kind is = in_node n k is
    by_frame (in_or n k) kind is = in_node n k is
    by_frame (in_if n k) kind is = in_node n k is
    by_frame (in_count n) kind is = in_node n 0 is
    by_frame (in_store n) kind is = in_node n 0 is
    by_frame (in_turn n turns done) kind is = in_node n 1 is
    by_frame (in_isolate n name) kind is = in_node n 0 is
    by_frame (in_page n kind) k is = in_node n 0 is
    by_frame (in_finish n) kind is = in_node n 0 is
    by_frame (in_back n) kind is = in_node n 0 is

-- the node that is visited is there
pub visit_there : (a : Arena) → IsScript a → (n : ℕ) (env : List Val) (fs : List Frame) → FitsAt a (visit n) env fs → n < length a.nodes
visit_there a i n env [] w = let z = w.0 in omega (arith, has_nodes a i)
visit_there a i n env (f ∷ fs) w = frame_there a i f n w.0 w.1.0

-- a place of a list is below its length
pub place_there : (k p : ℕ) (ps : List ℕ) → slice_get ps k ≡ Some p → k < length ps
place_there k p [] e = absurd (cc)
place_there zero p (q ∷ ps) e = omega arith
place_there (suc k) p (q ∷ ps) e = omega (arith, place_there k p ps e)
