-- A segment over present cells stops, and takes no more steps than twice its cost, its frames and two.
use Rattle.std.proofs.Common.{◌≡◌, ℕ, zero, suc, ◌+◌, ◌*◌, ◌-◌, ◌^◌, ◌<◌, ◌≤◌, ℤ, pos, negsuc, List, [], ◌∷◌, ◌++◌, length, min, refl, sym, ap, subst, ◌∙◌, arith, Bool, true, false, Result, Ok, Err}
use Rattle.std.specs.Prelude.{nat_lt}
use Rattle.std.proofs.lemmas.Bool.Decides.{nat_tests}
use Rattle.script_value.specs.Val.{Val, truth}
use Rattle.script_value.specs.Views.{meaning}
use Rattle.instance_cells.specs.Cells.{cell_at, sum, commit}
use Rattle.script_value.specs.declared.outcome.Op.{Op}
use Rattle.script_value.specs.declared.outcome.Fault.{Fault}
use Rattle.script_value.specs.declared.outcome.TxName.{TxName}
use Rattle.script_nodes.specs.PrimSpec.Table.{value_of, is_false}
use Rattle.script_nodes.specs.PrimSpec.Lists.{list_of}
use Rattle.script_nodes.specs.declared.script.Node.{Node}
use Rattle.script_nodes.specs.declared.script.Node.TheVariants as node
use Rattle.script_nodes.specs.declared.script.SendKind.{SendKind}
use Rattle.script_nodes.specs.Arena.{Arena}
use Rattle.replay_spec.specs.Tape.{send_page, Reads, recorded, present, bound, Answer, State, End, got, stop, Run, ◌>>=◌, after, choose, charged, is_over, charge, url, enter, lookup, read_cell, answer, sent, read_from, set_in, added, add_to, add_in, as_number}
use Rattle.replay_spec.specs.Eval.{value_at, copied, is_not_false}
use Rattle.machine_states.specs.Machine.{Frame, in_binding, in_operand, in_body, in_seq, in_and, in_or, in_if, in_count, in_store, in_turn, in_isolate, in_call, in_task, in_page, in_finish, in_back, Control, visit, value, Point, inside_of, visits, gives, node_at, part_at, parts_from, bindings_from, body_at, op_at, first_of, task_at, store_by, next_binding, next_part, next_operand, next_argument, next_turn, first_turn, visited, cut, taken, Machine, Step, goes, stopped, stepped, step_at, step, then, steps}
use Rattle.machine_states.specs.Laws.{Stops}
use Rattle.machine_states.specs.Dues.{InSegment, owed_by, owed}
use Rattle.machine_states.proofs.Acts.{IsActLaw, visited_paid, taken_all}

-- where an end has a value its cost is at least c, and else at least b
abbrev Costs : ℕ → (b c : ℕ) → {A : Type 0} → End A → Type 0
Costs fuel b c (got v s) = InSegment fuel s × (c ≤ s.cost)
Costs fuel b c (stop o names s) = b ≤ s.cost

-- the cost does not fall, and an action that is charged raises it
abbrev Stays : ℕ → (A : Type 0) → Run A → Type 0
Stays fuel A r = (s : State) → InSegment fuel s → Costs fuel s.cost s.cost (r s)

abbrev Raises : ℕ → (A : Type 0) → Run A → Type 0
Raises fuel A r = (s : State) → InSegment fuel s → Costs fuel s.cost (suc s.cost) (r s)

weaker : (fuel a b c d : ℕ) {A : Type 0} (e : End A) → a ≤ c → b ≤ d → Costs fuel c d e → Costs fuel a b e
weaker fuel a b c d (got v s) h k g = (g.0, let i = g.1 in omega arith)
weaker fuel a b c d (stop o names s) h k g = omega arith

stays_on : (fuel b c : ℕ) {A B : Type 0} (e : End A) (f : A → Run B) → b ≤ c → Costs fuel b c e → ((x : A) → Stays fuel B (f x)) → Costs fuel b c (after e f)
stays_on fuel b c (got x s) f l h g = weaker fuel b c s.cost s.cost (f x s) (let i = h.1 in omega arith) h.1 (g x s h.0)
stays_on fuel b c (stop o names s) f l h g = h

raises_on : (fuel c : ℕ) {A B : Type 0} (e : End A) (f : A → Run B) → Costs fuel c c e → ((x : A) → Raises fuel B (f x)) → Costs fuel c (suc c) (after e f)
raises_on fuel c (got x s) f h g = weaker fuel c (suc c) s.cost (suc s.cost) (f x s) h.1 (let i = h.1 in omega arith) (g x s h.0)
raises_on fuel c (stop o names s) f h g = h

charges_by : (fuel cost : ℕ) (inside : List TxName) (over : Bool) (s : State) → s.cost < cost → (over ≡ false → cost ≤ fuel) → InSegment fuel s → Costs fuel s.cost (suc s.cost) (charged inside over cost s)
charges_by fuel cost inside true s h k f = omega arith
charges_by fuel cost inside false s h k f = (record { cells = f.cells; reads = f.reads; later = f.later; cost = k refl }, omega arith)

within : (fuel cost : ℕ) (reads : Reads) (cells : List Val) → reads ≡ present cells fuel → is_over (bound reads) cost ≡ false → cost ≤ fuel
within fuel cost reads cells p e =
    let q : nat_lt fuel cost ≡ false = sym (ap (λ (r : Reads). is_over (bound r) cost) p) ∙ e in
    grind (arith, nat_tests)

charges : (fuel : ℕ) → fuel < 2 ^ 63 → (inside : List TxName) (n : ℕ) → 0 < n → Raises fuel (Unit {0}) (charge inside n)
charges fuel h inside n more s f =
    let cost = min (s.cost + n) (2 ^ 63) in
    charges_by fuel cost inside (is_over (bound s.segment.reads) cost) s (let c = f.cost in omega arith) (within fuel cost s.segment.reads f.cells f.reads) f

-- the segment goes on where its reads, the answers that are left and its cost stay
kept : (fuel : ℕ) (s t : State) → t.segment.reads ≡ s.segment.reads → t.later ≡ s.later → t.cost ≡ s.cost → InSegment fuel s → InSegment fuel t
kept fuel s t p q r f = record { cells = f.cells; reads = p ∙ f.reads; later = q ∙ f.later; cost = let c = f.cost in omega arith }

same : (fuel : ℕ) (s : State) → InSegment fuel s → InSegment fuel s × (s.cost ≤ s.cost)
same fuel s f = (f, omega arith)

sends : (fuel : ℕ) (inside : List TxName) (kind : SendKind) (page : Val) (later : List Answer) (s : State) → later ≡ [] → Costs fuel s.cost s.cost (sent inside kind page later s)
sends fuel inside kind page [] s e = omega arith
sends fuel inside kind page (a ∷ later) s e = absurd (cc)

reads : (fuel : ℕ) (c : ℕ) (source : Reads) (s : State) → source ≡ s.segment.reads → InSegment fuel s → Costs fuel s.cost s.cost (read_from source c s)
reads fuel c (recorded vs) s e f = absurd (let p = f.reads in cc)
reads fuel c (present cells n) s e f = (kept fuel s _ refl refl refl f, omega arith)

sets : (fuel : ℕ) (c : ℕ) (v : Val) (source : Reads) (s : State) → source ≡ s.segment.reads → InSegment fuel s → Costs fuel s.cost s.cost (set_in source c v s)
sets fuel c v (recorded vs) s e f = absurd (let p = f.reads in cc)
sets fuel c v (present cells n) s e f = (kept fuel s _ refl refl refl f, omega arith)

added_by : (fuel : ℕ) (inside : List TxName) (c : ℕ) (w : Val) (n : ℤ) (r : Result Val Fault) (s : State) → InSegment fuel s → Costs fuel s.cost s.cost (added inside c w n r s)
added_by fuel inside c w n (Ok v) s f = (kept fuel s _ refl refl refl f, omega arith)
added_by fuel inside c w n (Err k) s f = omega arith

adds_to : (fuel : ℕ) (inside : List TxName) (c : ℕ) (w : Val) (n : Result ℤ Fault) (s : State) → InSegment fuel s → Costs fuel s.cost s.cost (add_to inside c w n s)
adds_to fuel inside c w (Ok n) s f = added_by fuel inside c w n (sum w n) s f
adds_to fuel inside c w (Err k) s f = omega arith

adds : (fuel : ℕ) (inside : List TxName) (c : ℕ) (v : Val) (source : Reads) (s : State) → source ≡ s.segment.reads → InSegment fuel s → Costs fuel s.cost s.cost (add_in inside source c v s)
adds fuel inside c v (recorded vs) s e f = absurd (let p = f.reads in cc)
adds fuel inside c v (present cells n) s e f = adds_to fuel inside c (cell_at (commit s.effects cells) c) (as_number v) s f

law : (fuel : ℕ) → fuel < 2 ^ 63 → IsActLaw (λ inside A r. Stays fuel A r) (λ inside A r. Raises fuel A r)
law fuel h = record {
  gives = λ inside A x s f. same fuel s f;
  goes_on = λ inside A B r f g k s fits. stays_on fuel s.cost s.cost (r s) f (omega arith) (g s fits) k;
  paid_first = λ inside A B r f g k s fits. stays_on fuel s.cost (suc s.cost) (r s) f (omega arith) (g s fits) k;
  paid_then = λ inside A B r f g k s fits. raises_on fuel s.cost (r s) f (g s fits) k;
  charges = charges fuel h;
  fails = λ inside k s f. omega arith;
  urls = λ inside s f. same fuel s f;
  finishes = λ inside page s f. omega arith;
  ends = λ inside page s f. omega arith;
  names = λ inside s f. (kept fuel s _ refl refl refl f, omega arith);
  leaves = λ inside name v s f. (kept fuel s _ refl refl refl f, omega arith);
  looks_up = λ inside c s f. same fuel s f;
  shadows = λ inside c v s f. (kept fuel s _ refl refl refl f, omega arith);
  reads = λ inside c s f. reads fuel c s.segment.reads s refl f;
  sets = λ inside c v s f. sets fuel c v s.segment.reads s refl f;
  adds = λ inside c v s f. adds fuel inside c v s.segment.reads s refl f;
}

-- ## What is owed

-- each point that is next owes one more than the frames after it
abbrev Owes : List Frame → End Point → Type 0
Owes fs (got p s) = owed p ≡ suc (length fs)
Owes fs (stop o names s) = Unit {0}

owes_after : {A : Type 0} (fs : List Frame) (e : End A) (f : A → Run Point) → ((x : A) (s : State) → Owes fs (f x s)) → Owes fs (after e f)
owes_after fs (got x s) f h = h x s
owes_after fs (stop o names s) f h = tt

owes_given : (fs : List Frame) (e : End Val) (env : List Val) → Owes fs (after e (λ v. gives v env fs))
owes_given fs e env = owes_after fs e (λ v. gives v env fs) (λ v s. refl)

owes_binding : (n : ℕ) (ps : List ℕ) (b : ℕ) (done env : List Val) (fs : List Frame) (s : State) → Owes fs (next_binding n ps b done env fs s)
owes_binding n [] b done env fs s = refl
owes_binding n (p ∷ ps) b done env fs s = refl

owes_part : (f : Frame) (ps : List ℕ) (v : Val) (env : List Val) (fs : List Frame) (s : State) → Owes fs (next_part f ps v env fs s)
owes_part f [] v env fs s = refl
owes_part f (p ∷ ps) v env fs s = refl

owes_operand : (n : ℕ) (o : Op) (ps : List ℕ) (done env : List Val) (fs : List Frame) (s : State) → Owes fs (next_operand n o ps done env fs s)
owes_operand n o [] done env fs s = owes_given fs (answer (inside_of fs) (value_of o done) s) env
owes_operand n o (p ∷ ps) done env fs s = refl

owes_argument : (n b : ℕ) (ps : List ℕ) (done env : List Val) (fs : List Frame) (s : State) → Owes fs (next_argument n b ps done env fs s)
owes_argument n b [] done env fs s = refl
owes_argument n b (p ∷ ps) done env fs s = refl

owes_turn : (n times b left : ℕ) (done env : List Val) (fs : List Frame) (s : State) → Owes fs (next_turn n times b left done env fs s)
owes_turn n times b zero done env fs s = owes_given fs (answer (inside_of fs) (list_of done) s) env
owes_turn n times b (suc k) done env fs s = refl

owes_first : (n b : ℕ) (count : Result ℤ Fault) (env : List Val) (fs : List Frame) (s : State) → Owes fs (first_turn n b count env fs s)
owes_first n b (Ok (pos k)) env fs s = owes_turn n k b k [] env fs s
owes_first n b (Ok (negsuc k)) env fs s = tt
owes_first n b (Err k) env fs s = tt

owes_choice : (b : Bool) (fs : List Frame) (p q : Run Point) (s : State) → Owes fs (p s) → Owes fs (q s) → Owes fs (choose b p q s)
owes_choice true fs p q s h k = h
owes_choice false fs p q s h k = k

-- an action, and then a visit
owes_visit : {A : Type 0} (fs : List Frame) (e : End A) (n : A → ℕ) (env : A → List Val) (f : A → Frame) → Owes fs (after e (λ x. visits (n x) (env x) (f x ∷ fs)))
owes_visit fs (got x s) n env f = refl
owes_visit fs (stop o names s) n env f = tt

visited_owes : (a : Arena) (n : ℕ) (x : Node) (env : List Val) (fs : List Frame) (s : State) → Owes fs (visited a n x env fs s)
visited_owes a n (node.Lit v) env fs s = owes_given fs (copied (inside_of fs) (meaning v) s) env
visited_owes a n (node.Var k) env fs s = owes_given fs (copied (inside_of fs) (value_at env k) s) env
visited_owes a n (node.Let ps b) env fs s = owes_after fs (charge (inside_of fs) 1 s) (λ _. next_binding n ps b [] env fs) (λ _ t. owes_binding n ps b [] env fs t)
visited_owes a n (node.Seq ps) env fs s = owes_after fs (charge (inside_of fs) 1 s) (λ _. next_part (in_seq n 0) ps (truth false) env fs) (λ _ t. owes_part (in_seq n 0) ps (truth false) env fs t)
visited_owes a n (node.If t x y) env fs s = owes_visit fs (charge (inside_of fs) 1 s) (λ _. t) (λ _. env) (λ _. in_if n 0)
visited_owes a n (node.And ps) env fs s = owes_after fs (charge (inside_of fs) 1 s) (λ _. next_part (in_and n 0) ps (truth true) env fs) (λ _ t. owes_part (in_and n 0) ps (truth true) env fs t)
visited_owes a n (node.Or ps) env fs s = owes_after fs (charge (inside_of fs) 1 s) (λ _. next_part (in_or n 0) ps (truth false) env fs) (λ _ t. owes_part (in_or n 0) ps (truth false) env fs t)
visited_owes a n (node.For c b) env fs s = owes_visit fs (charge (inside_of fs) 1 s) (λ _. c) (λ _. env) (λ _. in_count n)
visited_owes a n (node.Prim o ps) env fs s = owes_after fs (charge (inside_of fs) 1 s) (λ _. next_operand n o ps [] env fs) (λ _ t. owes_operand n o ps [] env fs t)
visited_owes a n (node.Call k ps) env fs s = owes_after fs (charge (inside_of fs) 1 s) (λ _. next_argument n (first_of a k) ps [] env fs) (λ _ t. owes_argument n (first_of a k) ps [] env fs t)
visited_owes a n (node.Send kind b) env fs s =
    owes_after fs (charge (inside_of fs) 1 s) (λ _. url >>= λ u. visits b (env ++ u ∷ []) (in_page n kind ∷ fs)) (λ _ t. owes_visit fs (url t) (λ _. b) (λ u. env ++ u ∷ []) (λ _. in_page n kind))
visited_owes a n (node.Finish b) env fs s = owes_visit fs (charge (inside_of fs) 1 s) (λ _. b) (λ _. env) (λ _. in_finish n)
visited_owes a n (node.Back b) env fs s = owes_visit fs (charge (inside_of fs) 1 s) (λ _. b) (λ _. env) (λ _. in_back n)
visited_owes a n (node.Isolate b) env fs s = owes_visit fs (enter (inside_of fs) s) (λ _. b) (λ _. env) (λ name. in_isolate n name)
visited_owes a n (node.CellRef c) env fs s = owes_given fs ((lookup c >>= copied (inside_of fs)) s) env
visited_owes a n (node.CellShadow c e) env fs s = owes_visit fs (charge (inside_of fs) 1 s) (λ _. e) (λ _. env) (λ _. in_store n)
visited_owes a n (node.InstRef c) env fs s = owes_given fs ((read_cell c >>= copied (inside_of fs)) s) env
visited_owes a n (node.InstSet c e) env fs s = owes_visit fs (charge (inside_of fs) 1 s) (λ _. e) (λ _. env) (λ _. in_store n)
visited_owes a n (node.InstAdd c e) env fs s = owes_visit fs (charge (inside_of fs) 1 s) (λ _. e) (λ _. env) (λ _. in_store n)

taken_owes : (a : Arena) (f : Frame) (v : Val) (env : List Val) (fs : List Frame) (s : State) → Owes fs (taken a f v env fs s)
taken_owes a (in_binding n done) v env fs s = owes_binding n (bindings_from a n (suc (length done))) (body_at a n) (done ++ v ∷ []) env fs s
taken_owes a (in_operand n done) v env fs s = owes_operand n (op_at a n) (parts_from a n (suc (length done))) (done ++ v ∷ []) env fs s
taken_owes a (in_call n done) v env fs s = owes_argument n (task_at a n) (parts_from a n (suc (length done))) (done ++ v ∷ []) env fs s
taken_owes a (in_task n k outer) v env fs s = refl
taken_owes a (in_body n k) v env fs s = refl
taken_owes a (in_seq n k) v env fs s = owes_part (in_seq n (suc k)) (parts_from a n (suc k)) v env fs s
taken_owes a (in_and n k) v env fs s =
    owes_choice (is_not_false v) fs (next_part (in_and n (suc k)) (parts_from a n (suc k)) v env fs) (gives v env fs) s (owes_part (in_and n (suc k)) (parts_from a n (suc k)) v env fs s) refl
taken_owes a (in_or n k) v env fs s =
    owes_choice (is_false v) fs (next_part (in_or n (suc k)) (parts_from a n (suc k)) v env fs) (gives v env fs) s (owes_part (in_or n (suc k)) (parts_from a n (suc k)) v env fs s) refl
taken_owes a (in_if n zero) v env fs s = owes_choice (is_false v) fs (visits (part_at a n 2) env (in_if n 2 ∷ fs)) (visits (part_at a n 1) env (in_if n 1 ∷ fs)) s refl refl
taken_owes a (in_if n (suc k)) v env fs s = refl
taken_owes a (in_count n) v env fs s = owes_first n (body_at a n) (as_number v) env fs s
taken_owes a (in_turn n times done) v env fs s = owes_turn n times (body_at a n) (times - suc (length done)) (done ++ v ∷ []) env fs s
taken_owes a (in_store n) v env fs s = owes_given fs (store_by (node_at a n) (inside_of fs) v s) env
taken_owes a (in_isolate n name) v env fs s = refl
taken_owes a (in_page n kind) v env fs s = owes_given fs (send_page (inside_of fs) kind v s) env
taken_owes a (in_finish n) v env fs s = tt
taken_owes a (in_back n) v env fs s = tt

-- ## Steps

-- a step that goes on has taken its due from what was owed and the cost; one that stops has not lowered the cost
abbrev pub Pays : ℕ → (before cost : ℕ) → Step → Type 0
Pays fuel before cost (goes m) = InSegment fuel m.state × (owed m.point + 1 + 2 * cost ≤ before + 2 * m.state.cost)
Pays fuel before cost (stopped o names d s) = cost ≤ s.cost

paid_by : (fuel before cost least : ℕ) (env : List Val) (fs : List Frame) (e : End Point) → Costs fuel cost least e → Owes fs e → suc (length fs) + 1 + 2 * cost ≤ before + 2 * least
    → Pays fuel before cost (stepped env fs e)
paid_by fuel before cost least env fs (got p s) c o h = (c.0, let i = c.1 in omega arith)
paid_by fuel before cost least env fs (stop n names s) c o h = c

pub step_pays : (fuel : ℕ) → fuel < 2 ^ 63 → (a : Arena) (c : Control) (env : List Val) (fs : List Frame) (s : State) → InSegment fuel s → Pays fuel (owed_by c (length fs)) s.cost (step_at a c env fs s)
step_pays fuel h a (visit n) env fs s f =
    paid_by fuel (length fs) s.cost (suc s.cost) env fs (visited a n (node_at a n) env fs s)
    (visited_paid (λ inside A r. Stays fuel A r) (λ inside A r. Raises fuel A r) (law fuel h) a n (node_at a n) env fs s f) (visited_owes a n (node_at a n) env fs s) (omega arith)
step_pays fuel h a (value v) env [] s f = omega arith
step_pays fuel h a (value v) env (g ∷ fs) s f =
    paid_by fuel (suc (length (g ∷ fs))) s.cost s.cost (cut g env) fs (taken a g v (cut g env) fs s)
    (taken_all (λ inside A r. Stays fuel A r) (λ inside A r. Raises fuel A r) (law fuel h) (λ inside kind page t i. sends fuel inside kind page t.later t i.later) a g v (cut g env) fs s f)
    (taken_owes a g v (cut g env) fs s) (omega arith)

-- a stop, and the steps to it, one more than these at most
pub record Halts (a : Arena) (k : ℕ) (m : Machine) : Type 0 where
  pub stops : Stops a m
  pub few : stops.count + 2 * m.state.cost ≤ owed m.point + 2 * stops.state.cost + 1
  pub soon : stops.count ≤ k + 1

halts_by : (fuel : ℕ) (a : Arena) (k : ℕ) (m : Machine) (y : Step) → step a m ≡ y → Pays fuel (owed m.point) m.state.cost y → owed m.point + 2 * fuel ≤ k + 2 * m.state.cost
    → ((j : ℕ) → k ≡ suc j → (n : Machine) → InSegment fuel n.state → owed n.point + 2 * fuel ≤ j + 2 * n.state.cost → Halts a j n) → Halts a k m
halts_by fuel a k m (stopped o names d s) e p b ih =
    record { stops = record { count = 1; outcome = o; entered = names; kept = d; state = s; are = ap (then (steps a 0)) e }; few = omega arith; soon = omega arith }
halts_by fuel a zero m (goes n) e p b ih = absurd (let f = p.0 in let c = f.cost in let r = p.1 in omega arith)
halts_by fuel a (suc k) m (goes n) e p b ih =
    let r = p.1 in
    let h = ih k refl n p.0 (omega arith) in
    let few = h.few in
    let soon = h.soon in
    record {
      stops = record { count = suc h.stops.count; outcome = h.stops.outcome; entered = h.stops.entered; kept = h.stops.kept; state = h.stops.state; are = ap (then (steps a h.stops.count)) e ∙ h.stops.are };
      few = omega arith;
      soon = omega arith;
    }

same_left : (j k : ℕ) → suc k ≡ suc j → k ≡ j
same_left j k e = omega arith

pub halts : (fuel : ℕ) → fuel < 2 ^ 63 → (a : Arena) (k : ℕ) (m : Machine) → InSegment fuel m.state → owed m.point + 2 * fuel ≤ k + 2 * m.state.cost → Halts a k m
halts fuel h a zero m f b =
    halts_by fuel a zero m (step a m) refl (step_pays fuel h a m.point.control m.point.env m.point.frames m.state f) b (λ j e. absurd (omega arith))
halts fuel h a (suc k) m f b =
    halts_by fuel a (suc k) m (step a m) refl (step_pays fuel h a m.point.control m.point.env m.point.frames m.state f) b
    (λ j e n g c. subst (λ (i : ℕ). Halts a i n) (same_left j k e) (halts fuel h a k n g (omega arith)))
