-- What is kept of a script at a page binds web cells of the script, the cells rising.
use Rattle.std.proofs.Common.{ℕ, zero, suc, ◌+◌, ◌-◌, ◌<◌, ◌^◌, min, Bool, true, false, ℤ, List, [], ◌∷◌, ◌++◌, length, Result, Ok, Err, subst}
use Rattle.std.specs.Prelude.{pos, negsuc}
use Rattle.script_value.specs.Val.{Val, truth, size_of}
use Rattle.script_value.specs.Views.{meaning}
use Rattle.script_value.specs.declared.outcome.Op.{Op}
use Rattle.script_value.specs.declared.outcome.Fault.{Fault}
use Rattle.script_value.specs.declared.outcome.TxName.{TxName}
use Rattle.script_nodes.specs.PrimSpec.Table.{is_false}
use Rattle.machine_states.specs.InstanceCells.Cells.{commit, cell_at}
use Rattle.web_cells.specs.Shadows.{bound_to}
use Rattle.web_cells.proofs.Shadowed.{rise, bound_named}
use Rattle.script_nodes.specs.declared.script.Node.{Node}
use Rattle.script_nodes.specs.declared.script.Node.TheVariants as node
use Rattle.script_nodes.specs.declared.script.SendKind.{SendKind}
use Rattle.script_nodes.specs.Arena.{Arena, IsScript, IsOnCells}
use Rattle.machine_states.specs.ReplaySpec.Tape.{Reads, recorded, present, Answer, Tape, State, End, got, stop, Run, after, ◌>>=◌, give, answer, choose, bound, is_over, charged, charge, url, sent, send_page, named, enter, lookup, read_from, read_cell, set_in, added, add_to, add_in, as_number}
use Rattle.machine_states.specs.ReplaySpec.Eval.{value_at, copied, is_not_false}
use Rattle.machine_states.specs.Machine.{Control, visit, value, Frame, in_binding, in_operand, in_body, in_seq, in_and, in_or, in_if, in_count, in_store, in_turn, in_isolate, in_call, in_task, in_page, in_finish, in_back, Point, inside_of, visits, gives, given, cut, node_at, part_at, parts_from, bindings_from, body_at, store_by, next_binding, next_part, next_operand, next_argument, next_turn, first_turn, visited, taken, next, Suspended, Machine, Step, goes, stopped, stepped, step, then, steps}
use Rattle.machine_states.specs.Laws.{started, IsStateOf}
use Rattle.machine_states.proofs.Fitting.{each_fits}
use Rattle.machine_states.proofs.NodesOnCells.{on_cells}
use Rattle.frame_codec.specs.Stored.{ShadowsFit}
use Rattle.frame_codec.specs.Laws.{EachKeptIsStored}

-- ---- one binding more

bound_fits : (a : Arena) (c : ℕ) (v : Val) (ss : List (ℕ × Val)) → c < length a.web → ShadowsFit a ss → ShadowsFit a (bound_to c v ss)
bound_fits a c v ss k h = record { rise = rise c v ss h.rise; named = bound_named (length a.web) c v ss k h.named }

-- ---- actions

abbrev EndFits : (a : Arena) → {A : Type 0} → End A → Type 0
EndFits a (got x s) = ShadowsFit a s.shadows
EndFits a (stop o names s) = ShadowsFit a s.shadows

-- an action that leaves the bindings so
abbrev Keeps : (a : Arena) → {A : Type 0} → Run A → Type 0
Keeps a r = (s : State) → ShadowsFit a s.shadows → EndFits a (r s)

goes_on : (a : Arena) {A B : Type 0} (e : End A) (f : A → Run B) → EndFits a e → ((x : A) → Keeps a (f x)) → EndFits a (after e f)
goes_on a (got x t) f h g = g x t h
goes_on a (stop o names t) f h g = h

charges_by : (a : Arena) (inside : List TxName) (over : Bool) (cost : ℕ) → Keeps a (charged inside over cost)
charges_by a inside true cost s h = h
charges_by a inside false cost s h = h

charges : (a : Arena) (inside : List TxName) (k : ℕ) → Keeps a (charge inside k)
charges a inside k s h = let cost = min (s.cost + k) (2 ^ 63) in charges_by a inside (is_over (bound s.segment.reads) cost) cost s h

copies : (a : Arena) (inside : List TxName) (v : Val) → Keeps a (copied inside v)
copies a inside v s h = goes_on a (charge inside (1 + size_of v) s) (λ _. give v) (charges a inside (1 + size_of v) s h) (λ x t on. on)

paid : (a : Arena) (inside : List TxName) (r : Run Point) → Keeps a r → Keeps a (charge inside 1 >>= λ _. r)
paid a inside r k s h = goes_on a (charge inside 1 s) (λ _. r) (charges a inside 1 s h) (λ x. k)

enters : (a : Arena) (inside : List TxName) → Keeps a (enter inside)
enters a inside s h = goes_on a (charge inside 1 s) (λ _. named) (charges a inside 1 s h) (λ x t on. on)

any_given : (a : Arena) (r : Run Val) (env : List Val) (fs : List Frame) → Keeps a r → Keeps a (given r env fs)
any_given a r env fs k s h = goes_on a (r s) (λ v. gives v env fs) (k s h) (λ v t on. on)

answers : (a : Arena) (inside : List TxName) (r : Result Val Fault) → Keeps a (answer inside r)
answers a inside (Ok v) s h = h
answers a inside (Err k) s h = h

chooses : (a : Arena) (b : Bool) (r q : Run Point) → Keeps a r → Keeps a q → Keeps a (choose b r q)
chooses a true r q x y = x
chooses a false r q x y = y

reads : (a : Arena) (c : ℕ) (source : Reads) → Keeps a (read_from source c)
reads a c (recorded []) s h = h
reads a c (recorded (v ∷ vs)) s h = h
reads a c (present cells fuel) s h = h

sets : (a : Arena) (c : ℕ) (v : Val) (source : Reads) → Keeps a (set_in source c v)
sets a c v (recorded vs) s h = h
sets a c v (present cells fuel) s h = h

added_keeps : (a : Arena) (inside : List TxName) (c : ℕ) (w : Val) (n : ℤ) (r : Result Val Fault) → Keeps a (added inside c w n r)
added_keeps a inside c w n (Ok v) s h = h
added_keeps a inside c w n (Err k) s h = h

adds_to : (a : Arena) (inside : List TxName) (c : ℕ) (w : Val) (r : Result ℤ Fault) → Keeps a (add_to inside c w r)
adds_to a inside c w (Ok n) = λ s h. added_keeps a inside c w n _ s h
adds_to a inside c w (Err k) = λ s h. h

adds : (a : Arena) (inside : List TxName) (c : ℕ) (v : Val) (source : Reads) → Keeps a (add_in inside source c v)
adds a inside c v (recorded vs) s h = h
adds a inside c v (present cells fuel) s h = adds_to a inside c (cell_at (commit s.effects cells) c) (as_number v) s h

sends : (a : Arena) (inside : List TxName) (kind : SendKind) (page : Val) (later : List Answer) → Keeps a (sent inside kind page later)
sends a inside kind page [] s h = h
sends a inside kind page (x ∷ later) s h = h

stores : (a : Arena) (x : Node) (inside : List TxName) (v : Val) → IsOnCells (length a.web) (length a.cells) x → Keeps a (store_by x inside v)
stores a (node.CellShadow c e) inside v k s h = bound_fits a c v s.shadows k h
stores a (node.InstSet c e) inside v k s h = sets a c v s.segment.reads s h
stores a (node.InstAdd c e) inside v k s h = adds a inside c v s.segment.reads s h
stores a (node.Lit _) inside v k s h = h
stores a (node.Var _) inside v k s h = h
stores a (node.Let _ _) inside v k s h = h
stores a (node.Seq _) inside v k s h = h
stores a (node.If _ _ _) inside v k s h = h
stores a (node.And _) inside v k s h = h
stores a (node.Or _) inside v k s h = h
stores a (node.For _ _) inside v k s h = h
stores a (node.Prim _ _) inside v k s h = h
stores a (node.Call _ _) inside v k s h = h
stores a (node.Send _ _) inside v k s h = h
stores a (node.Finish _) inside v k s h = h
stores a (node.Back _) inside v k s h = h
stores a (node.Isolate _) inside v k s h = h
stores a (node.CellRef _) inside v k s h = h
stores a (node.InstRef _) inside v k s h = h

-- ---- what is worked on next

binding : (a : Arena) (n : ℕ) (ps : List ℕ) (b : ℕ) (done env : List Val) (fs : List Frame) → Keeps a (next_binding n ps b done env fs)
binding a n [] b done env fs s h = h
binding a n (p ∷ ps) b done env fs s h = h

part : (a : Arena) (f : Frame) (ps : List ℕ) (v : Val) (env : List Val) (fs : List Frame) → Keeps a (next_part f ps v env fs)
part a f [] v env fs s h = h
part a f (p ∷ ps) v env fs s h = h

operand : (a : Arena) (n : ℕ) (o : Op) (ps : List ℕ) (done env : List Val) (fs : List Frame) → Keeps a (next_operand n o ps done env fs)
operand a n o [] done env fs = any_given a _ env fs (answers a (inside_of fs) _)
operand a n o (p ∷ ps) done env fs = λ s h. h

argument : (a : Arena) (n b : ℕ) (ps : List ℕ) (done env : List Val) (fs : List Frame) → Keeps a (next_argument n b ps done env fs)
argument a n b [] done env fs s h = h
argument a n b (p ∷ ps) done env fs s h = h

turn : (a : Arena) (n turns b left : ℕ) (done env : List Val) (fs : List Frame) → Keeps a (next_turn n turns b left done env fs)
turn a n turns b zero done env fs = any_given a _ env fs (answers a (inside_of fs) _)
turn a n turns b (suc k) done env fs = λ s h. h

first : (a : Arena) (n b : ℕ) (count : Result ℤ Fault) (env : List Val) (fs : List Frame) → Keeps a (first_turn n b count env fs)
first a n b (Ok (pos k)) env fs = turn a n k b k [] env fs
first a n b (Ok (negsuc k)) env fs = λ s h. h
first a n b (Err k) env fs = λ s h. h

visits_keep : (a : Arena) (n : ℕ) (x : Node) (env : List Val) (fs : List Frame) → Keeps a (visited a n x env fs)
visits_keep a n (node.Lit v) env fs = any_given a _ env fs (copies a (inside_of fs) (meaning v))
visits_keep a n (node.Var k) env fs = any_given a _ env fs (copies a (inside_of fs) (value_at env k))
visits_keep a n (node.Let ps b) env fs = paid a (inside_of fs) _ (binding a n ps b [] env fs)
visits_keep a n (node.Seq ps) env fs = paid a (inside_of fs) _ (part a (in_seq n 0) ps (truth false) env fs)
visits_keep a n (node.If t x y) env fs = paid a (inside_of fs) (visits t env (in_if n 0 ∷ fs)) (λ s h. h)
visits_keep a n (node.And ps) env fs = paid a (inside_of fs) _ (part a (in_and n 0) ps (truth true) env fs)
visits_keep a n (node.Or ps) env fs = paid a (inside_of fs) _ (part a (in_or n 0) ps (truth false) env fs)
visits_keep a n (node.For c b) env fs = paid a (inside_of fs) (visits c env (in_count n ∷ fs)) (λ s h. h)
visits_keep a n (node.Prim o ps) env fs = paid a (inside_of fs) _ (operand a n o ps [] env fs)
visits_keep a n (node.Call k ps) env fs = paid a (inside_of fs) _ (argument a n _ ps [] env fs)
visits_keep a n (node.Send kind b) env fs = paid a (inside_of fs) (url >>= λ u. visits b (env ++ u ∷ []) (in_page n kind ∷ fs)) (λ s h. h)
visits_keep a n (node.Finish b) env fs = paid a (inside_of fs) (visits b env (in_finish n ∷ fs)) (λ s h. h)
visits_keep a n (node.Back b) env fs = paid a (inside_of fs) (visits b env (in_back n ∷ fs)) (λ s h. h)
visits_keep a n (node.Isolate b) env fs =
    λ s h. goes_on a (enter (inside_of fs) s) (λ name. visits b env (in_isolate n name ∷ fs)) (enters a (inside_of fs) s h) (λ name t on. on)
visits_keep a n (node.CellRef c) env fs =
    any_given a (lookup c >>= copied (inside_of fs)) env fs (λ s h. goes_on a (lookup c s) (copied (inside_of fs)) h (copies a (inside_of fs)))
visits_keep a n (node.CellShadow c e) env fs = paid a (inside_of fs) (visits e env (in_store n ∷ fs)) (λ s h. h)
visits_keep a n (node.InstRef c) env fs =
    any_given a (read_cell c >>= copied (inside_of fs)) env fs
    (λ s h. goes_on a (read_cell c s) (copied (inside_of fs)) (reads a c s.segment.reads s h) (copies a (inside_of fs)))
visits_keep a n (node.InstSet c e) env fs = paid a (inside_of fs) (visits e env (in_store n ∷ fs)) (λ s h. h)
visits_keep a n (node.InstAdd c e) env fs = paid a (inside_of fs) (visits e env (in_store n ∷ fs)) (λ s h. h)

takes_keep : (a : Arena) → IsScript a → (f : Frame) (v : Val) (env : List Val) (fs : List Frame) → Keeps a (taken a f v env fs)
takes_keep a i (in_binding n done) v env fs = binding a n (bindings_from a n (suc (length done))) (body_at a n) (done ++ v ∷ []) env fs
takes_keep a i (in_operand n done) v env fs = operand a n _ (parts_from a n (suc (length done))) (done ++ v ∷ []) env fs
takes_keep a i (in_call n done) v env fs = argument a n _ (parts_from a n (suc (length done))) (done ++ v ∷ []) env fs
takes_keep a i (in_task n k outer) v env fs = λ s h. h
takes_keep a i (in_body n bound) v env fs = λ s h. h
takes_keep a i (in_seq n k) v env fs = part a (in_seq n (suc k)) (parts_from a n (suc k)) v env fs
takes_keep a i (in_and n k) v env fs = chooses a (is_not_false v) _ (gives v env fs) (part a (in_and n (suc k)) (parts_from a n (suc k)) v env fs) (λ s h. h)
takes_keep a i (in_or n k) v env fs = chooses a (is_false v) _ (gives v env fs) (part a (in_or n (suc k)) (parts_from a n (suc k)) v env fs) (λ s h. h)
takes_keep a i (in_if n zero) v env fs =
    chooses a (is_false v) (visits (part_at a n 2) env (in_if n 2 ∷ fs)) (visits (part_at a n 1) env (in_if n 1 ∷ fs)) (λ s h. h) (λ s h. h)
takes_keep a i (in_if n (suc k)) v env fs = λ s h. h
takes_keep a i (in_count n) v env fs = first a n (body_at a n) (as_number v) env fs
takes_keep a i (in_turn n turns done) v env fs = turn a n turns (body_at a n) (turns - suc (length done)) (done ++ v ∷ []) env fs
takes_keep a i (in_store n) v env fs = any_given a (store_by (node_at a n) (inside_of fs) v) env fs (stores a (node_at a n) (inside_of fs) v (on_cells a i n))
takes_keep a i (in_isolate n name) v env fs = λ s h. h
takes_keep a i (in_page n kind) v env fs =
    any_given a (send_page (inside_of fs) kind v) env fs (λ s h. sends a (inside_of fs) kind v s.later s h)
takes_keep a i (in_finish n) v env fs = λ s h. h
takes_keep a i (in_back n) v env fs = λ s h. h

next_keeps : (a : Arena) → IsScript a → (c : Control) (env : List Val) (fs : List Frame) → Keeps a (next a c env fs)
next_keeps a i (visit n) env fs = visits_keep a n (node_at a n) env fs
next_keeps a i (value v) env [] = λ s h. h
next_keeps a i (value v) env (f ∷ fs) = takes_keep a i f v (cut f env) fs

-- ---- steps

abbrev StepFits : Arena → Step → Type 0
StepFits a (goes m) = ShadowsFit a m.state.shadows
StepFits a (stopped o names d s) = ShadowsFit a d.shadows

stepped_fits : (a : Arena) (env : List Val) (fs : List Frame) (e : End Point) → EndFits a e → StepFits a (stepped env fs e)
stepped_fits a env fs (got p s) h = h
stepped_fits a env fs (stop o names s) h = h

step_fits : (a : Arena) → IsScript a → (m : Machine) → ShadowsFit a m.state.shadows → StepFits a (step a m)
step_fits a i m h = stepped_fits a _ _ _ (next_keeps a i m.point.control m.point.env m.point.frames m.state h)

on_fits : (a : Arena) (f : Machine → Step) (x : Step) → ((m : Machine) → ShadowsFit a m.state.shadows → StepFits a (f m)) → StepFits a x → StepFits a (then f x)
on_fits a f (goes m) h w = h m w
on_fits a f (stopped o names d s) h w = w

steps_fit : (a : Arena) → IsScript a → (k : ℕ) (m : Machine) → ShadowsFit a m.state.shadows → StepFits a (steps a k m)
steps_fit a i zero m w = w
steps_fit a i (suc k) m w = on_fits a (steps a k) (step a m) (steps_fit a i k) (step_fits a i m w)

pub kept_shadows : (a : Arena) → IsScript a → (t : Tape) (d : Suspended) → IsStateOf a t d → ShadowsFit a d.shadows
kept_shadows a i t d is =
    let s = is.stops in
    let fits : StepFits a (steps a s.count (started a t)) = steps_fit a i s.count (started a t) (record { rise = tt; named = tt }) in
    let kept : ShadowsFit a s.kept.shadows = subst (λ x. StepFits a x) s.are fits in
    subst (λ (k : Suspended). ShadowsFit a k.shadows) is.is kept

pub each_kept : EachKeptIsStored
each_kept a i t d is bytes = record { fits = each_fits a t d is; shadows = kept_shadows a i t d is; bytes = bytes }
