-- A machine that begins a script stops over every tape.
use Rattle.std.proofs.Common.{◌≡◌, ℕ, zero, suc, ◌+◌, ◌-◌, ◌<◌, ◌≤◌, ◌⊎◌, inl, inr, ℤ, pos, negsuc, List, [], ◌∷◌, ◌++◌, map, length, drop, refl, sym, ap, subst, ◌∙◌, arith, Option, Some, None, slice_get, Bool, true, false, Result, Ok, Err}
use Rattle.std.specs.Prelude.{unwrap_or}
use Rattle.std.specs.List.{list_all, AllByRecursion}
use Rattle.std.proofs.lemmas.Bool.{and_parts, and_from}
use Rattle.script_value.specs.Val.{Val, number, truth}
use Rattle.script_value.specs.Views.{meaning}
use Rattle.script_value.specs.declared.value.Value.TheVariants.{Truth}
use Rattle.script_value.specs.declared.outcome.Op.{Op}
use Rattle.script_value.specs.declared.outcome.Fault.{Fault}
use Rattle.script_nodes.specs.PrimSpec.Table.{value_of, is_false}
use Rattle.script_nodes.specs.PrimSpec.Lists.{list_of}
use Rattle.script_nodes.specs.declared.script.Node.{Node}
use Rattle.script_nodes.specs.declared.script.Node.TheVariants as node
use Rattle.script_nodes.specs.Core.{cores_of}
use Rattle.script_nodes.specs.Calls.{CallsBelow, AllCallBelow}
use Rattle.script_nodes.specs.Arena.{Arena, IsScript, IsBehind, parts, shape, tree_at}
use Rattle.script_nodes.proofs.Scripts.{has_nodes, parts_behind, task_within}
use Rattle.script_nodes.proofs.Below.{body_below, expression_below}
use Rattle.replay_spec.specs.Tape.{Tape, State, End, got, stop, Run, ◌>>=◌, after, answer, choose, charge, url, send_page, enter, leave, lookup, read_cell, as_number}
use Rattle.replay_spec.specs.Eval.{value_at, copied, is_not_false}
use Rattle.machine_states.specs.Machine.{Frame, in_binding, in_operand, in_body, in_seq, in_and, in_or, in_if, in_count, in_store, in_turn, in_isolate, in_call, in_task, in_page, in_finish, in_back, Control, visit, value, Point, inside_of, visits, gives, node_at, part_in, part_at, parts_from, bindings_from, bindings_in, body_at, body_in, op_at, op_in, first_of, task_in, task_at, store_by, next_binding, next_part, next_operand, next_argument, next_turn, first_turn, visited, cut, taken, next, outer_env, outer_frames, Machine, stepped, step, then, steps}
use Rattle.machine_states.specs.Laws.{started, Stops}
use Rattle.machine_states.proofs.Meaning.{first_there, length_more, drop_next, drop_all}
use Rattle.script_nodes.proofs.Trees.{all_front, all_last, tree_at_node}

abbrev at : Control → List Val → List Frame → State → Machine
at c env fs s = record { point = record { control = c; env = env; frames = fs }; state = s }

-- what is next stops
abbrev Ends : Arena → End Point → Type 0
Ends a (got p s) = Stops a (record { point = p; state = s })
Ends a (stop o names s) = Unit {0}

by_end : (a : Arena) (m : Machine) (env : List Val) (fs : List Frame) (e : End Point) → step a m ≡ stepped env fs e → Ends a e → Stops a m
by_end a m env fs (got p s) h t =
    record { count = suc t.count; outcome = t.outcome; entered = t.entered; kept = t.kept; state = t.state; are = ap (then (steps a t.count)) h ∙ t.are }
by_end a m env fs (stop o names s) h t =
    record { count = 1; outcome = o; entered = names; kept = record { env = env; frames = fs; shadows = s.shadows }; state = s; are = ap (then (steps a 0)) h }

by_next : (a : Arena) (c : Control) (env : List Val) (fs : List Frame) (s : State) → Ends a (next a c env fs s) → Stops a (at c env fs s)
by_next a c env fs s h = by_end a (at c env fs s) (outer_env c env fs) (outer_frames c fs) (next a c env fs s) refl h

-- a value that is given to these frames, and a visit of this node
abbrev Lands : Arena → List Frame → Type 0
Lands a fs = (v : Val) (env : List Val) (s : State) → Stops a (at (value v) env fs s)

abbrev Good : Arena → ℕ → Type 0
Good a n = (fs : List Frame) → Lands a fs → (env : List Val) (s : State) → Stops a (at (visit n) env fs s)

lands : (a : Arena) (f : Frame) (fs : List Frame) → ((v : Val) (env : List Val) (s : State) → Ends a (taken a f v (cut f env) fs s)) → Lands a (f ∷ fs)
lands a f fs h v env s = by_next a (value v) env (f ∷ fs) s (h v env s)

acts : {A : Type 0} (a : Arena) (e : End A) (k : A → Run Point) → ((x : A) (s : State) → Ends a (k x s)) → Ends a (after e k)
acts a (got x s) k h = h x s
acts a (stop o names s) k h = tt

leaf : (a : Arena) (env : List Val) (fs : List Frame) → Lands a fs → (e : End Val) → Ends a (after e (λ v. gives v env fs))
leaf a env fs l e = acts a e (λ v. gives v env fs) (λ v s. l v env s)

chosen : (a : Arena) (b : Bool) (p q : Run Point) (s : State) → Ends a (p s) → Ends a (q s) → Ends a (choose b p q s)
chosen a true p q s h k = h
chosen a false p q s h k = k

binding : (a : Arena) (n : ℕ) (ps : List ℕ) → AllByRecursion (Good a) ps → Good a (body_at a n) → (fs : List Frame) → Lands a fs
    → (done env : List Val) (s : State) → bindings_from a n (length done) ≡ ps → Ends a (next_binding n ps (body_at a n) done env fs s)
binding a n [] g h fs l done env s e = h (in_body n (length done) ∷ fs) (lands a (in_body n (length done)) fs (λ v env t. l v (cut (in_body n (length done)) env) t)) (env ++ done) s
binding a n (p ∷ ps) g h fs l done env s e =
    let q : bindings_from a n (suc (length done)) ≡ ps = drop_next (length done) (bindings_in (node_at a n)) p ps e in
    g.0 (in_binding n done ∷ fs) (lands a (in_binding n done) fs (λ v env t.
    subst (λ (qs : List ℕ). Ends a (next_binding n qs (body_at a n) (done ++ v ∷ []) env fs t)) (sym q)
    (binding a n ps g.1 h fs l (done ++ v ∷ []) env t (ap (λ (k : ℕ). bindings_from a n k) (length_more done v) ∙ q)))) env s

-- a frame of parts that are worked on in turn
part : (a : Arena) (n : ℕ) (frame : ℕ → Frame) → ((k : ℕ) (fs : List Frame) → Lands a fs → (v : Val) (env : List Val) (s : State)
    → Ends a (next_part (frame (suc k)) (parts_from a n (suc k)) v env fs s) → Ends a (taken a (frame k) v (cut (frame k) env) fs s))
    → (ps : List ℕ) → AllByRecursion (Good a) ps → (fs : List Frame) → Lands a fs → (k : ℕ) (v : Val) (env : List Val) (s : State) → parts_from a n k ≡ ps → Ends a (next_part (frame k) ps v env fs s)
part a n frame takes [] g fs l k v env s e = l v env s
part a n frame takes (p ∷ ps) g fs l k v env s e =
    let q : parts_from a n (suc k) ≡ ps = drop_next k (parts (node_at a n)) p ps e in
    g.0 (frame k ∷ fs) (lands a (frame k) fs (λ v env t. takes k fs l v env t
    (subst (λ (qs : List ℕ). Ends a (next_part (frame (suc k)) qs v env fs t)) (sym q) (part a n frame takes ps g.1 fs l (suc k) v env t q)))) env s

seq_takes : (a : Arena) (n k : ℕ) (fs : List Frame) → Lands a fs → (v : Val) (env : List Val) (s : State)
    → Ends a (next_part (in_seq n (suc k)) (parts_from a n (suc k)) v env fs s) → Ends a (taken a (in_seq n k) v env fs s)
seq_takes a n k fs l v env s h = h

and_takes : (a : Arena) (n k : ℕ) (fs : List Frame) → Lands a fs → (v : Val) (env : List Val) (s : State)
    → Ends a (next_part (in_and n (suc k)) (parts_from a n (suc k)) v env fs s) → Ends a (taken a (in_and n k) v env fs s)
and_takes a n k fs l v env s h = chosen a (is_not_false v) (next_part (in_and n (suc k)) (parts_from a n (suc k)) v env fs) (gives v env fs) s h (l v env s)

or_takes : (a : Arena) (n k : ℕ) (fs : List Frame) → Lands a fs → (v : Val) (env : List Val) (s : State)
    → Ends a (next_part (in_or n (suc k)) (parts_from a n (suc k)) v env fs s) → Ends a (taken a (in_or n k) v env fs s)
or_takes a n k fs l v env s h = chosen a (is_false v) (next_part (in_or n (suc k)) (parts_from a n (suc k)) v env fs) (gives v env fs) s h (l v env s)

operand : (a : Arena) (n : ℕ) (ps : List ℕ) → AllByRecursion (Good a) ps → (fs : List Frame) → Lands a fs
    → (done env : List Val) (s : State) → parts_from a n (length done) ≡ ps → Ends a (next_operand n (op_at a n) ps done env fs s)
operand a n [] g fs l done env s e = leaf a env fs l (answer (inside_of fs) (value_of (op_at a n) done) s)
operand a n (p ∷ ps) g fs l done env s e =
    let q : parts_from a n (suc (length done)) ≡ ps = drop_next (length done) (parts (node_at a n)) p ps e in
    g.0 (in_operand n done ∷ fs) (lands a (in_operand n done) fs (λ v env t.
    subst (λ (qs : List ℕ). Ends a (next_operand n (op_at a n) qs (done ++ v ∷ []) env fs t)) (sym q)
    (operand a n ps g.1 fs l (done ++ v ∷ []) env t (ap (λ (k : ℕ). parts_from a n k) (length_more done v) ∙ q)))) env s

argument : (a : Arena) (n : ℕ) (ps : List ℕ) → AllByRecursion (Good a) ps → Good a (task_at a n) → (fs : List Frame) → Lands a fs
    → (done env : List Val) (s : State) → parts_from a n (length done) ≡ ps → Ends a (next_argument n (task_at a n) ps done env fs s)
argument a n [] g h fs l done env s e = h (in_task n (length done) env ∷ fs) (lands a (in_task n (length done) env) fs (λ v z t. l v env t)) done s
argument a n (p ∷ ps) g h fs l done env s e =
    let q : parts_from a n (suc (length done)) ≡ ps = drop_next (length done) (parts (node_at a n)) p ps e in
    g.0 (in_call n done ∷ fs) (lands a (in_call n done) fs (λ v env t.
    subst (λ (qs : List ℕ). Ends a (next_argument n (task_at a n) qs (done ++ v ∷ []) env fs t)) (sym q)
    (argument a n ps g.1 h fs l (done ++ v ∷ []) env t (ap (λ (k : ℕ). parts_from a n k) (length_more done v) ∙ q)))) env s

turn : (a : Arena) (n times left : ℕ) → Good a (body_at a n) → (fs : List Frame) → Lands a fs
    → (done env : List Val) (s : State) → times - length done ≡ left → Ends a (next_turn n times (body_at a n) left done env fs s)
turn a n times zero g fs l done env s e = leaf a env fs l (answer (inside_of fs) (list_of done) s)
turn a n times (suc k) g fs l done env s e =
    let q : times - suc (length done) ≡ k = omega arith in
    g (in_turn n times done ∷ fs) (lands a (in_turn n times done) fs (λ v env t.
    subst (λ (j : ℕ). Ends a (next_turn n times (body_at a n) j (done ++ v ∷ []) (cut (in_turn n times done) env) fs t)) (sym q)
    (turn a n times k g fs l (done ++ v ∷ []) (cut (in_turn n times done) env) t (ap (λ (j : ℕ). times - j) (length_more done v) ∙ q)))) (env ++ number (pos (length done)) ∷ []) s

first : (a : Arena) (n : ℕ) (count : Result ℤ Fault) → Good a (body_at a n) → (fs : List Frame) → Lands a fs → (env : List Val) (s : State) → Ends a (first_turn n (body_at a n) count env fs s)
first a n (Ok (pos k)) g fs l env s = turn a n k k g fs l [] env s (omega arith)
first a n (Ok (negsuc k)) g fs l env s = tt
first a n (Err k) g fs l env s = tt

-- where a node leads: its parts, and the body of the task that it calls
abbrev pub ways : Arena → Node → List ℕ
ways a (node.Call k ps) = ps ++ first_of a k ∷ []
ways a x = parts x

node_ends : (a : Arena) (n : ℕ) (x : Node) → node_at a n ≡ x → AllByRecursion (Good a) (ways a x) → (fs : List Frame) → Lands a fs → (env : List Val) (s : State) → Ends a (visited a n x env fs s)
node_ends a n (node.Lit v) e g fs l env s = leaf a env fs l (copied (inside_of fs) (meaning v) s)
node_ends a n (node.Var k) e g fs l env s = leaf a env fs l (copied (inside_of fs) (value_at env k) s)
node_ends a n (node.Let ps b) e g fs l env s =
    let same : body_at a n ≡ b = ap body_in e in
    acts a (charge (inside_of fs) 1 s) (λ _. next_binding n ps b [] env fs) (λ _ t.
    subst (λ (c : ℕ). Ends a (next_binding n ps c [] env fs t)) same
    (binding a n ps (all_front (Good a) ps (b ∷ []) g) (subst (Good a) (sym same) (all_last (Good a) ps b g)) fs l [] env t (ap (λ (y : Node). drop 0 (bindings_in y)) e ∙ drop_all ps)))
node_ends a n (node.Seq ps) e g fs l env s =
    acts a (charge (inside_of fs) 1 s) (λ _. next_part (in_seq n 0) ps (truth false) env fs) (λ _ t.
    part a n (in_seq n) (seq_takes a n) ps g fs l 0 (truth false) env t (ap (λ (y : Node). drop 0 (parts y)) e ∙ drop_all ps))
node_ends a n (node.If c x y) e g fs l env s =
    let one : part_at a n 1 ≡ x = ap (λ (z : Node). part_in z 1) e in
    let two : part_at a n 2 ≡ y = ap (λ (z : Node). part_in z 2) e in
    acts a (charge (inside_of fs) 1 s) (λ _. visits c env (in_if n 0 ∷ fs)) (λ _ t.
    g.0 (in_if n 0 ∷ fs) (lands a (in_if n 0) fs (λ v env u.
    chosen a (is_false v) (visits (part_at a n 2) env (in_if n 2 ∷ fs)) (visits (part_at a n 1) env (in_if n 1 ∷ fs)) u
    (subst (Good a) (sym two) g.1.1.0 (in_if n 2 ∷ fs) (lands a (in_if n 2) fs (λ v env w. l v env w)) env u)
    (subst (Good a) (sym one) g.1.0 (in_if n 1 ∷ fs) (lands a (in_if n 1) fs (λ v env w. l v env w)) env u))) env t)
node_ends a n (node.And ps) e g fs l env s =
    acts a (charge (inside_of fs) 1 s) (λ _. next_part (in_and n 0) ps (truth true) env fs) (λ _ t.
    part a n (in_and n) (and_takes a n) ps g fs l 0 (truth true) env t (ap (λ (y : Node). drop 0 (parts y)) e ∙ drop_all ps))
node_ends a n (node.Or ps) e g fs l env s =
    acts a (charge (inside_of fs) 1 s) (λ _. next_part (in_or n 0) ps (truth false) env fs) (λ _ t.
    part a n (in_or n) (or_takes a n) ps g fs l 0 (truth false) env t (ap (λ (y : Node). drop 0 (parts y)) e ∙ drop_all ps))
node_ends a n (node.For c b) e g fs l env s =
    let same : body_at a n ≡ b = ap body_in e in
    acts a (charge (inside_of fs) 1 s) (λ _. visits c env (in_count n ∷ fs)) (λ _ t.
    g.0 (in_count n ∷ fs) (lands a (in_count n) fs (λ v env u. first a n (as_number v) (subst (Good a) (sym same) g.1.0) fs l env u)) env t)
node_ends a n (node.Prim o ps) e g fs l env s =
    let same : op_at a n ≡ o = ap op_in e in
    acts a (charge (inside_of fs) 1 s) (λ _. next_operand n o ps [] env fs) (λ _ t.
    subst (λ (p : Op). Ends a (next_operand n p ps [] env fs t)) same
    (operand a n ps g fs l [] env t (ap (λ (y : Node). drop 0 (parts y)) e ∙ drop_all ps)))
node_ends a n (node.Call k ps) e g fs l env s =
    let same : task_at a n ≡ first_of a k = ap (λ (y : Node). first_of a (task_in y)) e in
    acts a (charge (inside_of fs) 1 s) (λ _. next_argument n (first_of a k) ps [] env fs) (λ _ t.
    subst (λ (c : ℕ). Ends a (next_argument n c ps [] env fs t)) same
    (argument a n ps (all_front (Good a) ps (first_of a k ∷ []) g) (subst (Good a) (sym same) (all_last (Good a) ps (first_of a k) g)) fs l [] env t (ap (λ (y : Node). drop 0 (parts y)) e ∙ drop_all ps)))
node_ends a n (node.Send kind b) e g fs l env s =
    acts a (charge (inside_of fs) 1 s) (λ _. url >>= λ u. visits b (env ++ u ∷ []) (in_page n kind ∷ fs)) (λ _ t.
    acts a (url t) (λ u. visits b (env ++ u ∷ []) (in_page n kind ∷ fs)) (λ u w.
    g.0 (in_page n kind ∷ fs) (lands a (in_page n kind) fs (λ v env z. leaf a (cut (in_page n kind) env) fs l (send_page (inside_of fs) kind v z))) (env ++ u ∷ []) w))
node_ends a n (node.Finish b) e g fs l env s =
    acts a (charge (inside_of fs) 1 s) (λ _. visits b env (in_finish n ∷ fs)) (λ _ t. g.0 (in_finish n ∷ fs) (lands a (in_finish n) fs (λ v env u. tt)) env t)
node_ends a n (node.Back b) e g fs l env s =
    acts a (charge (inside_of fs) 1 s) (λ _. visits b env (in_back n ∷ fs)) (λ _ t. g.0 (in_back n ∷ fs) (lands a (in_back n) fs (λ v env u. tt)) env t)
node_ends a n (node.Isolate b) e g fs l env s =
    acts a (enter (inside_of fs) s) (λ name. visits b env (in_isolate n name ∷ fs)) (λ name t.
    g.0 (in_isolate n name ∷ fs) (lands a (in_isolate n name) fs (λ v env u. leaf a env fs l (leave name v u))) env t)
node_ends a n (node.CellRef c) e g fs l env s = leaf a env fs l ((lookup c >>= copied (inside_of fs)) s)
node_ends a n (node.CellShadow c b) e g fs l env s =
    acts a (charge (inside_of fs) 1 s) (λ _. visits b env (in_store n ∷ fs)) (λ _ t. g.0 (in_store n ∷ fs) (lands a (in_store n) fs (λ v env u. leaf a env fs l (store_by (node_at a n) (inside_of fs) v u))) env t)
node_ends a n (node.InstRef c) e g fs l env s = leaf a env fs l ((read_cell c >>= copied (inside_of fs)) s)
node_ends a n (node.InstSet c b) e g fs l env s =
    acts a (charge (inside_of fs) 1 s) (λ _. visits b env (in_store n ∷ fs)) (λ _ t. g.0 (in_store n ∷ fs) (lands a (in_store n) fs (λ v env u. leaf a env fs l (store_by (node_at a n) (inside_of fs) v u))) env t)
node_ends a n (node.InstAdd c b) e g fs l env s =
    acts a (charge (inside_of fs) 1 s) (λ _. visits b env (in_store n ∷ fs)) (λ _ t. g.0 (in_store n ∷ fs) (lands a (in_store n) fs (λ v env u. leaf a env fs l (store_by (node_at a n) (inside_of fs) v u))) env t)

-- whether each way from a node has an end after so many nodes
abbrev pub is_within : ℕ → Arena → ℕ → Bool
is_within zero a n = false
is_within (suc k) a n = list_all (is_within k a) (ways a (node_at a n))

all_good : (a : Arena) (k : ℕ) → ((p : ℕ) → is_within k a p ≡ true → Good a p) → (ps : List ℕ) → list_all (is_within k a) ps ≡ true → AllByRecursion (Good a) ps
all_good a k f [] e = tt
all_good a k f (p ∷ ps) e = let both = and_parts (is_within k a p) (list_all (is_within k a) ps) e in (f p both.0, all_good a k f ps both.1)

good : (a : Arena) (k n : ℕ) → is_within k a n ≡ true → Good a n
good a zero n h fs l env s = absurd (let no : ⊥ = cc in no)
good a (suc k) n h fs l env s = by_next a (visit n) env fs s (node_ends a n (node_at a n) refl (all_good a k (good a k) (ways a (node_at a n)) h) fs l env s)

-- each node once in the expression and in each task
abbrev pub most : (nodes tasks : ℕ) → ℕ
most nodes zero = nodes
most nodes (suc k) = most nodes k + nodes

or_less : (j k : ℕ) → j < suc k → (j ≡ k) ⊎ (j < k)
or_less j k h = grind arith

most_by : (nodes j k : ℕ) → (j ≡ k) ⊎ (j < k) → (j < k → most nodes j + nodes ≤ most nodes k) → most nodes j + nodes ≤ most nodes k + nodes
most_by nodes j k (inl e) f = rw e (omega arith)
most_by nodes j k (inr l) f = let b = f l in omega arith

most_below : (nodes j k : ℕ) → j < k → most nodes j + nodes ≤ most nodes k
most_below nodes j zero h = absurd (omega arith)
most_below nodes j (suc k) h = most_by nodes j k (or_less j k h) (most_below nodes j k)

pub nodes_stop : (a : Arena) → is_within (most (length a.nodes) (length a.tasks)) a 0 ≡ true → (t : Tape) → Stops a (started a t)
nodes_stop a h t = good a (most (length a.nodes) (length a.tasks)) 0 h [] (λ v env s. by_next a (value v) env [] s tt) [] (started a t).state

-- ## Scripts

abbrev Below : Arena → ℕ → ℕ → Type 0
Below a j p = CallsBelow j (tree_at a.nodes p)

all_below : (a : Arena) (j : ℕ) (ps : List ℕ) → AllCallBelow j (cores_of (map (tree_at a.nodes) ps)) → AllByRecursion (Below a j) ps
all_below a j [] h = tt
all_below a j (p ∷ ps) h = (h.0, all_below a j ps h.1)

all_behind : (P : ℕ → Type 0) (ps : List ℕ) (q : ℕ) → AllByRecursion P ps → P q → AllByRecursion P (ps ++ q ∷ [])
all_behind P [] q h i = (i, tt)
all_behind P (p ∷ ps) q h i = (h.0, all_behind P ps q h.1 i)

-- a node's parts call what it does
parts_below : (a : Arena) (j : ℕ) (x : Node) → CallsBelow j (shape (tree_at a.nodes) x) → AllByRecursion (Below a j) (parts x)
parts_below a j (node.Lit v) h = tt
parts_below a j (node.Var k) h = tt
parts_below a j (node.Let ps b) h = all_behind (Below a j) ps b (all_below a j ps h.0) h.1
parts_below a j (node.Seq ps) h = all_below a j ps h
parts_below a j (node.If t x y) h = (h.0, (h.1, (h.2, tt)))
parts_below a j (node.And ps) h = all_below a j ps h
parts_below a j (node.Or ps) h = all_below a j ps h
parts_below a j (node.For c b) h = (h.0, (h.1, tt))
parts_below a j (node.Prim o ps) h = all_below a j ps h
parts_below a j (node.Call k ps) h = all_below a j ps h.1
parts_below a j (node.Send kind b) h = (h, tt)
parts_below a j (node.Finish b) h = (h, tt)
parts_below a j (node.Back b) h = (h, tt)
parts_below a j (node.Isolate b) h = (h, tt)
parts_below a j (node.CellRef c) h = tt
parts_below a j (node.CellShadow c e) h = (h, tt)
parts_below a j (node.InstRef c) h = tt
parts_below a j (node.InstSet c e) h = (h, tt)
parts_below a j (node.InstAdd c e) h = (h, tt)

pub first_within : (a : Arena) → IsScript a → (k : ℕ) → k < length a.tasks → first_of a k < length a.nodes
first_within a i k h = task_within a i k (first_of a k) (first_there a.tasks k h)

all_true : (P : ℕ → Type 0) (f : ℕ → Bool) → ((p : ℕ) → P p → f p ≡ true) → (ps : List ℕ) → AllByRecursion P ps → list_all f ps ≡ true
all_true P f g [] h = refl
all_true P f g (p ∷ ps) h = and_from (f p) (list_all f ps) (g p h.0) (all_true P f g ps h.1)

true_behind : (f : ℕ → Bool) (ps : List ℕ) (q : ℕ) → list_all f ps ≡ true → f q ≡ true → list_all f (ps ++ q ∷ []) ≡ true
true_behind f [] q h i = and_from (f q) true i refl
true_behind f (p ∷ ps) q h i = let both = and_parts (f p) (list_all f ps) h in and_from (f p) (list_all f (ps ++ q ∷ [])) both.0 (true_behind f ps q both.1 i)

-- the ways are the parts, or lead to the body of an earlier task too
by_ways : (a : Arena) (j : ℕ) (f : ℕ → Bool) (x : Node) → CallsBelow j (shape (tree_at a.nodes) x) → list_all f (parts x) ≡ true → ((k : ℕ) → k < j → f (first_of a k) ≡ true) → list_all f (ways a x) ≡ true
by_ways a j f (node.Call k ps) h e g = true_behind f ps (first_of a k) e (g k h.0)
by_ways a j f (node.Lit v) h e g = e
by_ways a j f (node.Var k) h e g = e
by_ways a j f (node.Let ps b) h e g = e
by_ways a j f (node.Seq ps) h e g = e
by_ways a j f (node.If t x y) h e g = e
by_ways a j f (node.And ps) h e g = e
by_ways a j f (node.Or ps) h e g = e
by_ways a j f (node.For c b) h e g = e
by_ways a j f (node.Prim o ps) h e g = e
by_ways a j f (node.Send kind b) h e g = e
by_ways a j f (node.Finish b) h e g = e
by_ways a j f (node.Back b) h e g = e
by_ways a j f (node.Isolate b) h e g = e
by_ways a j f (node.CellRef c) h e g = e
by_ways a j f (node.CellShadow c b) h e g = e
by_ways a j f (node.InstRef c) h e g = e
by_ways a j f (node.InstSet c b) h e g = e
by_ways a j f (node.InstAdd c b) h e g = e

abbrev Next : Arena → ℕ → ℕ → ℕ → Type 0
Next a j n p = IsBehind n (length a.nodes) p × Below a j p

both_all : (P Q : ℕ → Type 0) (ps : List ℕ) → AllByRecursion P ps → AllByRecursion Q ps → AllByRecursion (λ p. P p × Q p) ps
both_all P Q [] h i = tt
both_all P Q (p ∷ ps) h i = ((h.0, i.0), both_all P Q ps h.1 i.1)

within_node : (a : Arena) → IsScript a → (k j n : ℕ) → ((i p : ℕ) → i ≤ length a.tasks → p < length a.nodes → Below a i p → most (length a.nodes) i ≤ k + p → is_within k a p ≡ true)
    → j ≤ length a.tasks → n < length a.nodes → Below a j n → most (length a.nodes) j ≤ suc k + n → (x : Option Node) → slice_get a.nodes n ≡ x
    → list_all (is_within k a) (ways a (unwrap_or x (node.Lit (Truth false)))) ≡ true
within_node a i k j n ih few there below h None e = refl
within_node a i k j n ih few there below h (Some x) e =
    let tree : CallsBelow j (shape (tree_at a.nodes) x) = rw (tree_at_node a i n x e) at below in
    let next = both_all (IsBehind n (length a.nodes)) (Below a j) (parts x) (parts_behind a i n x e) (parts_below a j x tree) in
    by_ways a j (is_within k a) x tree
    (all_true (Next a j n) (is_within k a) (λ p q. let low = q.0.0 in ih j p few q.0.1 q.1 (omega arith)) (parts x) next)
    (λ m l. let b = most_below (length a.nodes) m j l in
    ih m (first_of a m) (omega arith) (first_within a i m (omega arith)) (body_below a m (first_of a m) i (first_there a.tasks m (omega arith))) (omega arith))

most_least : (nodes j : ℕ) → nodes ≤ most nodes j
most_least nodes zero = omega arith
most_least nodes (suc j) = omega (arith, most_least nodes j)

-- so many nodes are enough after this one
within : (a : Arena) → IsScript a → (k j n : ℕ) → j ≤ length a.tasks → n < length a.nodes → Below a j n → most (length a.nodes) j ≤ k + n → is_within k a n ≡ true
within a i zero j n few there below h = absurd (let l = most_least (length a.nodes) j in omega arith)
within a i (suc k) j n few there below h = within_node a i k j n (within a i k) few there below h (slice_get a.nodes n) refl

pub script_within : (a : Arena) → IsScript a → is_within (most (length a.nodes) (length a.tasks)) a 0 ≡ true
script_within a i = within a i (most (length a.nodes) (length a.tasks)) (length a.tasks) 0 (omega arith) (has_nodes a i) (expression_below a i) (omega arith)

pub script_stops : (a : Arena) → IsScript a → (t : Tape) → Stops a (started a t)
script_stops a i t = nodes_stop a (script_within a i) t

-- the parts of a node stand after it
pub behind : (a : Arena) → IsScript a → (n : ℕ) (x : Option Node) → slice_get a.nodes n ≡ x → AllByRecursion (IsBehind n (length a.nodes)) (parts (unwrap_or x (node.Lit (Truth false))))
behind a i n None e = tt
behind a i n (Some x) e = parts_behind a i n x e
