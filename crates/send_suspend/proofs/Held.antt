-- The effects of a segment over present cells are on the cells of its script and hold over them, whatever state it goes on from.
use Rattle.std.proofs.Common.{◌≡◌, ℕ, zero, suc, ◌+◌, ◌-◌, ◌<◌, ◌^◌, min, Bool, true, false, ℤ, List, [], ◌∷◌, ◌++◌, length, Result, Ok, Err, refl, sym, subst}
use Rattle.std.specs.Prelude.{pos, negsuc, IsOk}
use Rattle.script_value.specs.Val.{Val, truth, size_of}
use Rattle.script_value.specs.Views.{meaning}
use Rattle.script_value.specs.declared.outcome.Fault.{Fault}
use Rattle.script_value.specs.declared.outcome.Op.{Op}
use Rattle.script_value.specs.declared.outcome.TxName.{TxName}
use Rattle.prim_spec.specs.Table.{is_false}
use Rattle.web_cells.specs.Shadows.{bound_to}
use Rattle.instance_cells.specs.Cells.{Effect, read, set, add, cell_of, cell_at, sum, commit, Stands, Holds, AreOn}
use Rattle.instance_cells.proofs.Pushed.{holds_push, on_push}
use Rattle.script_nodes.specs.declared.script.Node.{Node}
use Rattle.script_nodes.specs.declared.script.Node.TheVariants as node
use Rattle.script_nodes.specs.declared.script.SendKind.{SendKind}
use Rattle.script_nodes.specs.Arena.{Arena, IsScript, IsOnCells}
use Rattle.segments.specs.ReplaySpec.Tape.{Reads, present, Answer, State, Outcome, End, got, stop, Run, after, ◌>>=◌, give, answer, choose, bound, is_over, charged, charge, url, sent, send_page, named, enter, lookup, read_from, read_cell, set_in, note, added, add_to, add_in, as_number}
use Rattle.segments.specs.ReplaySpec.Eval.{value_at, copied, is_not_false}
use Rattle.machine_states.specs.Machine.{Control, visit, value, Frame, in_binding, in_operand, in_body, in_seq, in_and, in_or, in_if, in_count, in_store, in_turn, in_isolate, in_call, in_task, in_page, in_finish, in_back, Point, inside_of, visits, gives, given, cut, node_at, part_at, parts_from, bindings_from, body_at, store_by, next_binding, next_part, next_operand, next_argument, next_turn, first_turn, visited, taken, next, Suspended, Machine, Step, goes, stopped, stepped, step, then, steps}
use Rattle.machine_states.proofs.NodesOnCells.{on_cells}

module _ (a : Arena) (i : IsScript a) (cells : List Val) (fuel : ℕ) (B : List (ℕ × Val) → Type 0) (binds : (c : ℕ) (v : Val) (ss : List (ℕ × Val)) → c < length a.web → B ss → B (bound_to c v ss)) where
  -- a segment over present cells, in which this holds of the bindings: its effects are on the script's cells and hold over these
  abbrev pub IsWell : State → Type 0
  IsWell s = (s.segment.reads ≡ present cells fuel) × ((s.later ≡ []) × ((Holds s.effects cells × AreOn (length a.cells) s.effects) × B s.shadows))

  -- ---- actions

  abbrev EndsWell : {A : Type 0} → End A → Type 0
  EndsWell (got x s) = IsWell s
  EndsWell (stop o names s) = IsWell s

  abbrev Keeps : {A : Type 0} → Run A → Type 0
  Keeps r = (s : State) → IsWell s → EndsWell (r s)

  goes_on : {A C : Type 0} (e : End A) (f : A → Run C) → EndsWell e → ((x : A) → Keeps (f x)) → EndsWell (after e f)
  goes_on (got x t) f h g = g x t h
  goes_on (stop o names t) f h g = h

  charges_by : (inside : List TxName) (over : Bool) (cost : ℕ) → Keeps (charged inside over cost)
  charges_by inside true cost s h = h
  charges_by inside false cost s h = h

  charges : (inside : List TxName) (k : ℕ) → Keeps (charge inside k)
  charges inside k s h = let cost = min (s.cost + k) (2 ^ 63) in charges_by inside (is_over (bound s.segment.reads) cost) cost s h

  copies : (inside : List TxName) (v : Val) → Keeps (copied inside v)
  copies inside v s h = goes_on (charge inside (1 + size_of v) s) (λ _. give v) (charges inside (1 + size_of v) s h) (λ x t on. on)

  paid : (inside : List TxName) (r : Run Point) → Keeps r → Keeps (charge inside 1 >>= λ _. r)
  paid inside r k s h = goes_on (charge inside 1 s) (λ _. r) (charges inside 1 s h) (λ x. k)

  enters : (inside : List TxName) → Keeps (enter inside)
  enters inside s h = goes_on (charge inside 1 s) (λ _. named) (charges inside 1 s h) (λ x t on. on)

  any_given : (r : Run Val) (env : List Val) (fs : List Frame) → Keeps r → Keeps (given r env fs)
  any_given r env fs k s h = goes_on (r s) (λ v. gives v env fs) (k s h) (λ v t on. on)

  answers : (inside : List TxName) (r : Result Val Fault) → Keeps (answer inside r)
  answers inside (Ok v) s h = h
  answers inside (Err k) s h = h

  chooses : (b : Bool) (r q : Run Point) → Keeps r → Keeps q → Keeps (choose b r q)
  chooses true r q x y = x
  chooses false r q x y = y

  -- one more effect, which stands over what the cell has now
  noted : (e : Effect) (s : State) → IsWell s → cell_of e < length a.cells → Stands e (cell_at (commit s.effects cells) (cell_of e)) → IsWell (note e s)
  noted e s h there stands =
      let held = h.1.1.0 in
      (h.0, (h.1.0, ((holds_push s.effects e cells held.0 stands, on_push (length a.cells) s.effects e held.1 there), h.1.1.1)))

  reads : (c : ℕ) → c < length a.cells → Keeps (read_cell c)
  reads c there s h =
      subst (λ (r : Reads). EndsWell (read_from r c s)) (sym h.0) (noted (read c (cell_at (commit s.effects cells) c)) s h there refl)

  sets : (c : ℕ) (v : Val) → c < length a.cells → (s : State) → IsWell s → EndsWell (set_in s.segment.reads c v s)
  sets c v there s h = subst (λ (r : Reads). EndsWell (set_in r c v s)) (sym h.0) (noted (set c v) s h there tt)

  adds_sum : (inside : List TxName) (c : ℕ) (n : ℤ) (r : Result Val Fault) (s : State) → c < length a.cells → IsWell s → sum (cell_at (commit s.effects cells) c) n ≡ r
      → EndsWell (added inside c (cell_at (commit s.effects cells) c) n r s)
  adds_sum inside c n (Ok v) s there h e = noted (add c n) s h there (subst IsOk (sym e) refl)
  adds_sum inside c n (Err k) s there h e = noted (read c (cell_at (commit s.effects cells) c)) s h there refl

  adds_to : (inside : List TxName) (c : ℕ) (n : Result ℤ Fault) (s : State) → c < length a.cells → IsWell s → EndsWell (add_to inside c (cell_at (commit s.effects cells) c) n s)
  adds_to inside c (Ok n) s there h = adds_sum inside c n (sum (cell_at (commit s.effects cells) c) n) s there h refl
  adds_to inside c (Err k) s there h = noted (read c (cell_at (commit s.effects cells) c)) s h there refl

  adds : (inside : List TxName) (c : ℕ) (v : Val) → c < length a.cells → (s : State) → IsWell s → EndsWell (add_in inside s.segment.reads c v s)
  adds inside c v there s h = subst (λ (r : Reads). EndsWell (add_in inside r c v s)) (sym h.0) (adds_to inside c (as_number v) s there h)

  -- no answer is left, so a page stops the segment
  sends : (inside : List TxName) (kind : SendKind) (page : Val) → Keeps (send_page inside kind page)
  sends inside kind page s h = subst (λ (later : List Answer). EndsWell (sent inside kind page later s)) (sym h.1.0) h

  stores : (x : Node) (inside : List TxName) (v : Val) → IsOnCells (length a.web) (length a.cells) x → Keeps (store_by x inside v)
  stores (node.CellShadow c e) inside v k s h = (h.0, (h.1.0, (h.1.1.0, binds c v s.shadows k h.1.1.1)))
  stores (node.InstSet c e) inside v k s h = sets c v k s h
  stores (node.InstAdd c e) inside v k s h = adds inside c v k s h
  stores (node.Lit _) inside v k s h = h
  stores (node.Var _) inside v k s h = h
  stores (node.Let _ _) inside v k s h = h
  stores (node.Seq _) inside v k s h = h
  stores (node.If _ _ _) inside v k s h = h
  stores (node.And _) inside v k s h = h
  stores (node.Or _) inside v k s h = h
  stores (node.For _ _) inside v k s h = h
  stores (node.Prim _ _) inside v k s h = h
  stores (node.Call _ _) inside v k s h = h
  stores (node.Send _ _) inside v k s h = h
  stores (node.Finish _) inside v k s h = h
  stores (node.Back _) inside v k s h = h
  stores (node.Isolate _) inside v k s h = h
  stores (node.CellRef _) inside v k s h = h
  stores (node.InstRef _) inside v k s h = h

  -- ---- what is worked on next

  binding : (n : ℕ) (ps : List ℕ) (b : ℕ) (done env : List Val) (fs : List Frame) → Keeps (next_binding n ps b done env fs)
  binding n [] b done env fs s h = h
  binding n (p ∷ ps) b done env fs s h = h

  part : (f : Frame) (ps : List ℕ) (v : Val) (env : List Val) (fs : List Frame) → Keeps (next_part f ps v env fs)
  part f [] v env fs s h = h
  part f (p ∷ ps) v env fs s h = h

  operand : (n : ℕ) (o : Op) (ps : List ℕ) (done env : List Val) (fs : List Frame) → Keeps (next_operand n o ps done env fs)
  operand n o [] done env fs = any_given _ env fs (answers (inside_of fs) _)
  operand n o (p ∷ ps) done env fs = λ s h. h

  argument : (n b : ℕ) (ps : List ℕ) (done env : List Val) (fs : List Frame) → Keeps (next_argument n b ps done env fs)
  argument n b [] done env fs s h = h
  argument n b (p ∷ ps) done env fs s h = h

  turn : (n turns b left : ℕ) (done env : List Val) (fs : List Frame) → Keeps (next_turn n turns b left done env fs)
  turn n turns b zero done env fs = any_given _ env fs (answers (inside_of fs) _)
  turn n turns b (suc k) done env fs = λ s h. h

  first : (n b : ℕ) (count : Result ℤ Fault) (env : List Val) (fs : List Frame) → Keeps (first_turn n b count env fs)
  first n b (Ok (pos k)) env fs = turn n k b k [] env fs
  first n b (Ok (negsuc k)) env fs = λ s h. h
  first n b (Err k) env fs = λ s h. h

  visits_keep : (n : ℕ) (x : Node) → IsOnCells (length a.web) (length a.cells) x → (env : List Val) (fs : List Frame) → Keeps (visited a n x env fs)
  visits_keep n (node.Lit v) on env fs = any_given _ env fs (copies (inside_of fs) (meaning v))
  visits_keep n (node.Var k) on env fs = any_given _ env fs (copies (inside_of fs) (value_at env k))
  visits_keep n (node.Let ps b) on env fs = paid (inside_of fs) _ (binding n ps b [] env fs)
  visits_keep n (node.Seq ps) on env fs = paid (inside_of fs) _ (part (in_seq n 0) ps (truth false) env fs)
  visits_keep n (node.If t x y) on env fs = paid (inside_of fs) (visits t env (in_if n 0 ∷ fs)) (λ s h. h)
  visits_keep n (node.And ps) on env fs = paid (inside_of fs) _ (part (in_and n 0) ps (truth true) env fs)
  visits_keep n (node.Or ps) on env fs = paid (inside_of fs) _ (part (in_or n 0) ps (truth false) env fs)
  visits_keep n (node.For c b) on env fs = paid (inside_of fs) (visits c env (in_count n ∷ fs)) (λ s h. h)
  visits_keep n (node.Prim o ps) on env fs = paid (inside_of fs) _ (operand n o ps [] env fs)
  visits_keep n (node.Call k ps) on env fs = paid (inside_of fs) _ (argument n _ ps [] env fs)
  visits_keep n (node.Send kind b) on env fs = paid (inside_of fs) (url >>= λ u. visits b (env ++ u ∷ []) (in_page n kind ∷ fs)) (λ s h. h)
  visits_keep n (node.Finish b) on env fs = paid (inside_of fs) (visits b env (in_finish n ∷ fs)) (λ s h. h)
  visits_keep n (node.Back b) on env fs = paid (inside_of fs) (visits b env (in_back n ∷ fs)) (λ s h. h)
  visits_keep n (node.Isolate b) on env fs =
      λ s h. goes_on (enter (inside_of fs) s) (λ name. visits b env (in_isolate n name ∷ fs)) (enters (inside_of fs) s h) (λ name t on. on)
  visits_keep n (node.CellRef c) on env fs =
      any_given (lookup c >>= copied (inside_of fs)) env fs (λ s h. goes_on (lookup c s) (copied (inside_of fs)) h (copies (inside_of fs)))
  visits_keep n (node.CellShadow c e) on env fs = paid (inside_of fs) (visits e env (in_store n ∷ fs)) (λ s h. h)
  visits_keep n (node.InstRef c) on env fs =
      any_given (read_cell c >>= copied (inside_of fs)) env fs
      (λ s h. goes_on (read_cell c s) (copied (inside_of fs)) (reads c on s h) (copies (inside_of fs)))
  visits_keep n (node.InstSet c e) on env fs = paid (inside_of fs) (visits e env (in_store n ∷ fs)) (λ s h. h)
  visits_keep n (node.InstAdd c e) on env fs = paid (inside_of fs) (visits e env (in_store n ∷ fs)) (λ s h. h)

  takes_keep : (f : Frame) (v : Val) (env : List Val) (fs : List Frame) → Keeps (taken a f v env fs)
  takes_keep (in_binding n done) v env fs = binding n (bindings_from a n (suc (length done))) (body_at a n) (done ++ v ∷ []) env fs
  takes_keep (in_operand n done) v env fs = operand n _ (parts_from a n (suc (length done))) (done ++ v ∷ []) env fs
  takes_keep (in_call n done) v env fs = argument n _ (parts_from a n (suc (length done))) (done ++ v ∷ []) env fs
  takes_keep (in_task n k outer) v env fs = λ s h. h
  takes_keep (in_body n bound) v env fs = λ s h. h
  takes_keep (in_seq n k) v env fs = part (in_seq n (suc k)) (parts_from a n (suc k)) v env fs
  takes_keep (in_and n k) v env fs = chooses (is_not_false v) _ (gives v env fs) (part (in_and n (suc k)) (parts_from a n (suc k)) v env fs) (λ s h. h)
  takes_keep (in_or n k) v env fs = chooses (is_false v) _ (gives v env fs) (part (in_or n (suc k)) (parts_from a n (suc k)) v env fs) (λ s h. h)
  takes_keep (in_if n zero) v env fs =
      chooses (is_false v) (visits (part_at a n 2) env (in_if n 2 ∷ fs)) (visits (part_at a n 1) env (in_if n 1 ∷ fs)) (λ s h. h) (λ s h. h)
  takes_keep (in_if n (suc k)) v env fs = λ s h. h
  takes_keep (in_count n) v env fs = first n (body_at a n) (as_number v) env fs
  takes_keep (in_turn n turns done) v env fs = turn n turns (body_at a n) (turns - suc (length done)) (done ++ v ∷ []) env fs
  takes_keep (in_store n) v env fs = any_given (store_by (node_at a n) (inside_of fs) v) env fs (stores (node_at a n) (inside_of fs) v (on_cells a i n))
  takes_keep (in_isolate n name) v env fs = λ s h. h
  takes_keep (in_page n kind) v env fs = any_given (send_page (inside_of fs) kind v) env fs (sends (inside_of fs) kind v)
  takes_keep (in_finish n) v env fs = λ s h. h
  takes_keep (in_back n) v env fs = λ s h. h

  next_keeps : (c : Control) (env : List Val) (fs : List Frame) → Keeps (next a c env fs)
  next_keeps (visit n) env fs = visits_keep n (node_at a n) (on_cells a i n) env fs
  next_keeps (value v) env [] = λ s h. h
  next_keeps (value v) env (f ∷ fs) = takes_keep f v (cut f env) fs

  -- ---- steps

  abbrev StepsWell : Step → Type 0
  StepsWell (goes m) = IsWell m.state
  StepsWell (stopped o names d s) = IsWell s × B d.shadows

  stepped_well : (env : List Val) (fs : List Frame) (e : End Point) → EndsWell e → StepsWell (stepped env fs e)
  stepped_well env fs (got p s) h = h
  stepped_well env fs (stop o names s) h = (h, h.1.1.1)

  step_well : (m : Machine) → IsWell m.state → StepsWell (step a m)
  step_well m h = stepped_well _ _ _ (next_keeps m.point.control m.point.env m.point.frames m.state h)

  on_well : (f : Machine → Step) (x : Step) → ((m : Machine) → IsWell m.state → StepsWell (f m)) → StepsWell x → StepsWell (then f x)
  on_well f (goes m) h w = h m w
  on_well f (stopped o names d s) h w = w

  steps_well : (k : ℕ) (m : Machine) → IsWell m.state → StepsWell (steps a k m)
  steps_well zero m w = w
  steps_well (suc k) m w = on_well (steps a k) (step a m) (steps_well k) (step_well m w)

  -- where the machine begins so, it stops so
  pub stop_well : (k : ℕ) (m : Machine) (o : Outcome) (names : List TxName) (d : Suspended) (s : State) → IsWell m.state → steps a k m ≡ stopped o names d s → IsWell s × B d.shadows
  stop_well k m o names d s w e = subst (λ (x : Step). StepsWell x) e (steps_well k m w)
