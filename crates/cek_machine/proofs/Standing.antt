-- A machine that fits stands on nodes that are there.
use Rattle.std.proofs.Common.{◌≡◌, ℕ, ◌<◌, ◌^◌, List, ◌∷◌, length, sym, ap, subst, arith}
use Rattle.script_value.specs.Val.{Val}
use Rattle.script_nodes.specs.declared.script.Node.{Node}
use Rattle.script_nodes.specs.Arena.{Arena, IsScript, parts}
use Rattle.segment_progress.specs.States.{state_of}
use Rattle.segments.specs.ReplaySpec.Tape.{got}
use Rattle.machine_states.specs.Machine as spec
use Rattle.machine_states.specs.Machine.{node_at, next, goes, step, outer_env, outer_frames, stepped, in_binding, in_operand, in_seq, in_and, in_or, in_if, in_count, in_store, in_turn, in_call}
use Rattle.machine_states.specs.Fits.{node_of, IsKind, IsPart, FitsAt}
use Rattle.machine_states.proofs.Fitting.{node_is_there, few_done}
use Rattle.machine_states.proofs.Stepping.{visit_there, place_there, fits_on, pays_on}
use Rattle.machine_states.specs.Dues.{InSegment}
use Rattle.cek_machine.specs.Machines.{most_cost, steps_left}
use Rattle.machine_states.specs.declared.frame.Frame.{Frame}
use Rattle.machine_states.specs.declared.frame.Frame.TheVariants as frame
use Rattle.cek_machine.specs.declared.control.Control.{Control}
use Rattle.cek_machine.specs.declared.spot.Spot.{Spot}
use Rattle.cek_machine.specs.Kinds.{IsRow, IsLet, IsPrim, IsCall, IsIf, IsFor, IsStore, Stands}
use Rattle.cek_machine.specs.Spots.{frames_of, control_of, point}
use Rattle.machine_states.specs.Views.{frame_of}

pub visits_there : (a : Arena) (n : ℕ) (env : List Val) (fs : List spec.Frame) → IsScript a → FitsAt a (spec.visit n) env fs → n < length a.nodes
visits_there a n env fs i w = visit_there a i n env fs w

row_seq : (n k : ℕ) (x : Node) → IsKind (in_seq n k) x → IsRow x
row_seq n k x h = grind (arith, h)

row_and : (n k : ℕ) (x : Node) → IsKind (in_and n k) x → IsRow x
row_and n k x h = grind (arith, h)

row_or : (n k : ℕ) (x : Node) → IsKind (in_or n k) x → IsRow x
row_or n k x h = grind (arith, h)

let_binding : (n : ℕ) (done : List Val) (x : Node) → IsKind (in_binding n done) x → IsLet x
let_binding n done x h = grind (arith, h)

prim_operand : (n : ℕ) (done : List Val) (x : Node) → IsKind (in_operand n done) x → IsPrim x
prim_operand n done x h = grind (arith, h)

call_argument : (n : ℕ) (done : List Val) (x : Node) → IsKind (in_call n done) x → IsCall x
call_argument n done x h = grind (arith, h)

if_if : (n k : ℕ) (x : Node) → IsKind (in_if n k) x → IsIf x
if_if n k x h = grind (arith, h)

for_count : (n : ℕ) (x : Node) → IsKind (in_count n) x → IsFor x
for_count n x h = grind (arith, h)

for_turn : (n turns : ℕ) (done : List Val) (x : Node) → IsKind (in_turn n turns done) x → IsFor x
for_turn n turns done x h = grind (arith, h)

store_store : (n : ℕ) (x : Node) → IsKind (in_store n) x → IsStore x
store_store n x h = grind (arith, h)

-- a frame of its node's kind, in a part that is there
by_kind : (a : Arena) (f : Frame) (p : ℕ) → IsKind (frame_of f) (node_at a (node_of (frame_of f)))
    → IsPart a (frame_of f) (node_at a (node_of (frame_of f))) p → Stands a f
by_kind a (frame.Binding n done) p h e =
    ((node_is_there a (in_binding n done) h, let_binding n done (node_at a n) h), few_done n done (node_at a n) h)
by_kind a (frame.Operand n done) p h e =
    ((node_is_there a (in_operand n done) h, prim_operand n done (node_at a n) h), place_there (length done) p (parts (node_at a n)) e)
by_kind a (frame.Call n done) p h e =
    ((node_is_there a (in_call n done) h, call_argument n done (node_at a n) h), place_there (length done) p (parts (node_at a n)) e)
by_kind a (frame.Task n k outer) p h e = tt
by_kind a (frame.Body n bound) p h e = tt
by_kind a (frame.Seq n k) p h e = ((node_is_there a (in_seq n k) h, row_seq n k (node_at a n) h), place_there k p (parts (node_at a n)) e)
by_kind a (frame.And n k) p h e = ((node_is_there a (in_and n k) h, row_and n k (node_at a n) h), place_there k p (parts (node_at a n)) e)
by_kind a (frame.Or n k) p h e = ((node_is_there a (in_or n k) h, row_or n k (node_at a n) h), place_there k p (parts (node_at a n)) e)
by_kind a (frame.If n k) p h e = (node_is_there a (in_if n k) h, if_if n k (node_at a n) h)
by_kind a (frame.Count n) p h e = (node_is_there a (in_count n) h, for_count n (node_at a n) h)
by_kind a (frame.Store n) p h e = (node_is_there a (in_store n) h, store_store n (node_at a n) h)
by_kind a (frame.Turn n turns done) p h e = (node_is_there a (in_turn n turns done) h, for_turn n turns done (node_at a n) h)
by_kind a (frame.Isolate n name) p h e = tt
by_kind a (frame.Page n kind) p h e = tt
by_kind a (frame.Finish n) p h e = tt
by_kind a (frame.Back n) p h e = tt

-- the innermost frame of a machine that fits
pub stands : (a : Arena) (f : Frame) (v : Val) (env : List Val) (fs gs : List spec.Frame) → fs ≡ frame_of f ∷ gs → FitsAt a (spec.value v) env fs → Stands a f
stands a f v env fs gs e w =
    let x = subst (λ (hs : List spec.Frame). FitsAt a (spec.value v) env hs) e w in
    by_kind a f x.0 x.1.0 x.1.1.0

-- what is next of a machine that fits
pub fits_next : (a : Arena) (c d : Control) (s t : Spot) (e : Control) → d ≡ c → FitsAt a (control_of c) s.env (frames_of s)
    → next a (control_of d) s.env (frames_of s) (state_of s.progress) ≡ got (point e t) (state_of t.progress) → FitsAt a (control_of e) t.env (frames_of t)
fits_next a c d s t e same w g =
    let here = subst (λ (x : Control). FitsAt a (control_of x) s.env (frames_of s)) (sym same) w in
    let m : spec.Machine = record { point = point d s; state = state_of s.progress } in
    let n : spec.Machine = record { point = point e t; state = state_of t.progress } in
    fits_on a m n here (ap (stepped (outer_env (control_of d) s.env (frames_of s)) (outer_frames (control_of d) (frames_of s))) g)

-- a step that goes on leaves fewer
pub within_on : (a : Arena) (m n : spec.Machine) (fuel : ℕ) → fuel < 2 ^ 63 → InSegment fuel m.state → step a m ≡ goes n → InSegment fuel n.state
within_on a m n fuel h w e = (pays_on fuel h a m n w e).0

pub fewer_left : (a : Arena) (m n : spec.Machine) (fuel : ℕ) → fuel < 2 ^ 63 → InSegment fuel m.state → step a m ≡ goes n → steps_left n < steps_left m
fewer_left a m n fuel h w e =
    let p = pays_on fuel h a m n w e in
    let before = ap most_cost w.reads in
    let behind = ap most_cost p.0.reads in
    let paid = p.1 in
    let least = w.cost in
    let most = p.0.cost in
    omega (arith, before, behind)
