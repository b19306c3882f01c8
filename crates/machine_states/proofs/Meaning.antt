-- What a machine's state stands for, by the evaluator; a step keeps it.
use Rattle.std.proofs.Common.{◌≡◌, ℕ, zero, suc, ◌-◌, ◌<◌, ℤ, pos, negsuc, List, [], ◌∷◌, ◌++◌, map, length, take, drop, Option, Some, None, slice_get, Bool, true, false, Result, Ok, Err, refl, sym, ap, ◌∙◌, length-append, arith}
use Rattle.std.specs.Prelude.{unwrap_or}
use Rattle.script_value.specs.Val.{Val, number, truth}
use Rattle.script_value.specs.Views.{meaning}
use Rattle.script_value.specs.declared.value.Value.TheVariants.{Truth}
use Rattle.script_value.specs.declared.outcome.Fault.{Fault}
use Rattle.script_value.specs.declared.outcome.Fault.TheVariants.{WrongType}
use Rattle.script_value.specs.declared.outcome.TxName.{TxName}
use Rattle.script_nodes.specs.PrimSpec.Table.{value_of, is_false}
use Rattle.script_nodes.specs.PrimSpec.Lists.{list_of}
use Rattle.script_nodes.specs.declared.script.Node.{Node}
use Rattle.script_nodes.specs.declared.script.Node.TheVariants as node
use Rattle.script_nodes.specs.Core.{Core, Cores, cores_of, lit}
use Rattle.script_nodes.specs.Arena.{Arena, IsScript, IsOnTasks, parts, shape, tree_within, tree_at}
use Rattle.script_nodes.proofs.Trees.{tree_at_node}
use Rattle.script_nodes.proofs.Scripts.{node_on_tasks}
use Rattle.replay_spec.specs.Tape.{State, finishes, ends, Outcome, End, got, stop, Run, after, ◌>>=◌, give, fail, answer, choose, charge, url, halt, send_page, enter, leave, lookup, read_cell, as_number}
use Rattle.replay_spec.specs.Eval.{calls_in, eval, eval_into, eval_while, turns, for_each, value_at, copied, is_not_false, is_any}
use Rattle.replay_spec.proofs.Calling.{called}
use Rattle.machine_states.specs.Machine.{Frame, in_binding, in_operand, in_body, in_seq, in_and, in_or, in_if, in_count, in_store, in_turn, in_isolate, in_call, in_task, in_page, in_finish, in_back, Control, visit, value, Point, inside_of, visits, gives, node_at, part_in, part_at, parts_from, bindings_from, bindings_in, body_at, body_in, op_at, first_of, task_in, task_at, store_by, next_binding, next_part, next_operand, next_argument, next_turn, first_turn, visited, cut, taken, next, outer_env, outer_frames, Machine, Step, goes, stopped, stepped, step, then, steps}

abbrev pub tree : Arena → ℕ → Core
tree a n = tree_at a.nodes n

abbrev pub trees : Arena → List ℕ → Cores
trees a ps = cores_of (map (tree_at a.nodes) ps)

-- what is left of a frame's node when its part has a value, in the variables outside and inside these transactions
abbrev pub rest : Arena → Frame → List Val → List TxName → Val → Run Val
rest a (in_binding n done) env inside v = eval_into (calls_in a) (done ++ v ∷ []) (trees a (bindings_from a n (suc (length done)))) env inside >>= λ vs. eval (calls_in a) (tree a (body_at a n)) (env ++ vs) inside
rest a (in_operand n done) env inside v = eval_into (calls_in a) (done ++ v ∷ []) (trees a (parts_from a n (suc (length done)))) env inside >>= λ vs. answer inside (value_of (op_at a n) vs)
rest a (in_call n done) env inside v = eval_into (calls_in a) (done ++ v ∷ []) (trees a (parts_from a n (suc (length done)))) env inside >>= λ vs. eval (calls_in a) (tree a (task_at a n)) vs inside
rest a (in_task n k outer) env inside v = give v
rest a (in_body n bound) env inside v = give v
rest a (in_seq n k) env inside v = eval_while (calls_in a) is_any v (trees a (parts_from a n (suc k))) env inside
rest a (in_and n k) env inside v = choose (is_not_false v) (eval_while (calls_in a) is_not_false v (trees a (parts_from a n (suc k))) env inside) (give v)
rest a (in_or n k) env inside v = choose (is_false v) (eval_while (calls_in a) is_false v (trees a (parts_from a n (suc k))) env inside) (give v)
rest a (in_if n zero) env inside v = choose (is_false v) (eval (calls_in a) (tree a (part_at a n 2)) env inside) (eval (calls_in a) (tree a (part_at a n 1)) env inside)
rest a (in_if n (suc k)) env inside v = give v
rest a (in_count n) env inside v = for_each inside (as_number v) (λ e. eval (calls_in a) (tree a (body_at a n)) e inside) env
rest a (in_turn n times done) env inside v = turns (times - suc (length done)) (suc (length done)) (done ++ v ∷ []) (λ e. eval (calls_in a) (tree a (body_at a n)) e inside) env >>= λ vs. answer inside (list_of vs)
rest a (in_store n) env inside v = store_by (node_at a n) inside v
rest a (in_isolate n name) env inside v = leave name v
rest a (in_page n kind) env inside v = send_page inside kind v
rest a (in_finish n) env inside v = halt inside finishes v
rest a (in_back n) env inside v = halt inside ends v

abbrev pub unwound : Arena → List Frame → List Val → End Val → End Val
unwound a [] env e = e
unwound a (f ∷ fs) env e = unwound a fs (cut f env) (after e (rest a f (cut f env) (inside_of fs)))

abbrev pub begun : Arena → Control → List Val → List TxName → Run Val
begun a (visit n) env inside = eval (calls_in a) (tree a n) env inside
begun a (value v) env inside = give v

abbrev pub meant_at : Arena → Control → List Val → List Frame → State → End Val
meant_at a c env fs s = unwound a fs env (begun a c env (inside_of fs) s)

abbrev pub meant : Arena → Point → State → End Val
meant a p s = meant_at a p.control p.env p.frames s

-- the script's own value ends it
abbrev pub closed : End Val → End Val
closed (got v s) = halt [] ends v s
closed (stop o names s) = stop o names s

abbrev pub meant_behind : Arena → End Point → End Val
meant_behind a (got p s) = closed (meant a p s)
meant_behind a (stop o names s) = stop o names s

abbrev pub meant_step : Arena → Step → End Val
meant_step a (goes m) = closed (meant a m.point m.state)
meant_step a (stopped o names d s) = stop o names s

-- ## Ends

pub after_give : {A : Type 0} (e : End A) → after e (λ v. give v) ≡ e
after_give (got v t) = refl
after_give (stop o names t) = refl

pub after_after : {A B C : Type 0} (e : End A) (f : A → Run B) (g : B → Run C) → after (after e f) g ≡ after e (λ x t. after (f x t) g)
after_after (got v t) f g = refl
after_after (stop o names t) f g = refl

unwound_stop : (a : Arena) (fs : List Frame) (env : List Val) (o : Outcome) (names : List TxName) (s : State) → unwound a fs env (stop o names s) ≡ stop o names s
unwound_stop a [] env o names s = refl
unwound_stop a (f ∷ fs) env o names s = unwound_stop a fs (cut f env) o names s

-- ## Lists

pub cut_back : (xs ys : List Val) → take (length (xs ++ ys) - length ys) (xs ++ ys) ≡ xs
cut_back xs ys =
    let l : length (xs ++ ys) - length ys ≡ length xs = let h = length-append xs ys in omega arith in
    rw l (take_front xs ys)
  where
    take_front : (xs ys : List Val) → take (length xs) (xs ++ ys) ≡ xs
    take_front [] ys = refl
    take_front (x ∷ xs) ys = ap (λ (zs : List Val). x ∷ zs) (take_front xs ys)

pub length_more : (done : List Val) (v : Val) → length (done ++ v ∷ []) ≡ suc (length done)
length_more done v = let h = length-append done (v ∷ []) in omega arith

pub drop_all : (xs : List ℕ) → drop 0 xs ≡ xs
drop_all [] = refl
drop_all (x ∷ xs) = refl

pub drop_next : (k : ℕ) (xs : List ℕ) (p : ℕ) (ps : List ℕ) → drop k xs ≡ p ∷ ps → drop (suc k) xs ≡ ps
drop_next zero [] p ps e = absurd (cc)
drop_next zero (x ∷ xs) p ps e = cc
drop_next (suc k) [] p ps e = absurd (cc)
drop_next (suc k) (x ∷ xs) p ps e = drop_next k xs p ps e

-- ## Steps

-- what follows stands for this end
abbrev Stands : Arena → List Val → List Frame → End Val → End Point → Type 0
Stands a env fs e r = meant_behind a r ≡ closed (unwound a fs env e)

leaf : (a : Arena) (env : List Val) (fs : List Frame) (e : End Val) → Stands a env fs e (after e (λ v. gives v env fs))
leaf a env fs (got v s) = refl
leaf a env fs (stop o names s) = sym (ap closed (unwound_stop a fs env o names s))

acts : {A : Type 0} (a : Arena) (env : List Val) (fs : List Frame) (e : End A) (f : A → Run Val) (k : A → Run Point)
    → ((x : A) (s : State) → Stands a env fs (f x s) (k x s)) → Stands a env fs (after e f) (after e k)
acts a env fs (got x s) f k h = h x s
acts a env fs (stop o names s) f k h = sym (ap closed (unwound_stop a fs env o names s))

binding : (a : Arena) (n : ℕ) (ps : List ℕ) (done env : List Val) (fs : List Frame) (s : State) → bindings_from a n (length done) ≡ ps
    → Stands a env fs (after (eval_into (calls_in a) done (trees a ps) env (inside_of fs) s) (λ vs. eval (calls_in a) (tree a (body_at a n)) (env ++ vs) (inside_of fs))) (next_binding n ps (body_at a n) done env fs s)
binding a n [] done env fs s e = rw (cut_back env done) (ap (λ (x : End Val). closed (unwound a fs env x)) (after_give (eval (calls_in a) (tree a (body_at a n)) (env ++ done) (inside_of fs) s)))
binding a n (p ∷ ps) done env fs s e =
    let q : bindings_from a n (suc (length done)) ≡ ps = drop_next (length done) (bindings_in (node_at a n)) p ps e in
    sym (ap (λ (x : End Val). closed (unwound a fs env x))
    (after_after (eval (calls_in a) (tree a p) env (inside_of fs) s) (λ v. eval_into (calls_in a) (done ++ v ∷ []) (trees a ps) env (inside_of fs)) (λ vs. eval (calls_in a) (tree a (body_at a n)) (env ++ vs) (inside_of fs))
    ∙ ap (λ (qs : List ℕ). after (eval (calls_in a) (tree a p) env (inside_of fs) s) (λ v. eval_into (calls_in a) (done ++ v ∷ []) (trees a qs) env (inside_of fs) >>= λ vs. eval (calls_in a) (tree a (body_at a n)) (env ++ vs) (inside_of fs))) (sym q)))

seq_part : (a : Arena) (n k : ℕ) (ps : List ℕ) (v : Val) (env : List Val) (fs : List Frame) (s : State) → parts_from a n k ≡ ps
    → Stands a env fs (eval_while (calls_in a) is_any v (trees a ps) env (inside_of fs) s) (next_part (in_seq n k) ps v env fs s)
seq_part a n k [] v env fs s e = refl
seq_part a n k (p ∷ ps) v env fs s e =
    let q : parts_from a n (suc k) ≡ ps = drop_next k (parts (node_at a n)) p ps e in
    ap (λ (qs : List ℕ). closed (unwound a fs env (after (eval (calls_in a) (tree a p) env (inside_of fs) s) (λ w. eval_while (calls_in a) is_any w (trees a qs) env (inside_of fs))))) q

and_part : (a : Arena) (n k : ℕ) (ps : List ℕ) (v : Val) (env : List Val) (fs : List Frame) (s : State) → parts_from a n k ≡ ps
    → Stands a env fs (eval_while (calls_in a) is_not_false v (trees a ps) env (inside_of fs) s) (next_part (in_and n k) ps v env fs s)
and_part a n k [] v env fs s e = refl
and_part a n k (p ∷ ps) v env fs s e =
    let q : parts_from a n (suc k) ≡ ps = drop_next k (parts (node_at a n)) p ps e in
    ap (λ (qs : List ℕ). closed (unwound a fs env (after (eval (calls_in a) (tree a p) env (inside_of fs) s) (λ w. choose (is_not_false w) (eval_while (calls_in a) is_not_false w (trees a qs) env (inside_of fs)) (give w))))) q

or_part : (a : Arena) (n k : ℕ) (ps : List ℕ) (v : Val) (env : List Val) (fs : List Frame) (s : State) → parts_from a n k ≡ ps
    → Stands a env fs (eval_while (calls_in a) is_false v (trees a ps) env (inside_of fs) s) (next_part (in_or n k) ps v env fs s)
or_part a n k [] v env fs s e = refl
or_part a n k (p ∷ ps) v env fs s e =
    let q : parts_from a n (suc k) ≡ ps = drop_next k (parts (node_at a n)) p ps e in
    ap (λ (qs : List ℕ). closed (unwound a fs env (after (eval (calls_in a) (tree a p) env (inside_of fs) s) (λ w. choose (is_false w) (eval_while (calls_in a) is_false w (trees a qs) env (inside_of fs)) (give w))))) q

operand : (a : Arena) (n : ℕ) (ps : List ℕ) (done env : List Val) (fs : List Frame) (s : State) → parts_from a n (length done) ≡ ps
    → Stands a env fs (after (eval_into (calls_in a) done (trees a ps) env (inside_of fs) s) (λ vs. answer (inside_of fs) (value_of (op_at a n) vs))) (next_operand n (op_at a n) ps done env fs s)
operand a n [] done env fs s e = leaf a env fs (answer (inside_of fs) (value_of (op_at a n) done) s)
operand a n (p ∷ ps) done env fs s e =
    let q : parts_from a n (suc (length done)) ≡ ps = drop_next (length done) (parts (node_at a n)) p ps e in
    sym (ap (λ (x : End Val). closed (unwound a fs env x))
    (after_after (eval (calls_in a) (tree a p) env (inside_of fs) s) (λ v. eval_into (calls_in a) (done ++ v ∷ []) (trees a ps) env (inside_of fs)) (λ vs. answer (inside_of fs) (value_of (op_at a n) vs))
    ∙ ap (λ (qs : List ℕ). after (eval (calls_in a) (tree a p) env (inside_of fs) s) (λ v. eval_into (calls_in a) (done ++ v ∷ []) (trees a qs) env (inside_of fs) >>= λ vs. answer (inside_of fs) (value_of (op_at a n) vs))) (sym q)))

argument : (a : Arena) (n : ℕ) (ps : List ℕ) (done env : List Val) (fs : List Frame) (s : State) → parts_from a n (length done) ≡ ps
    → Stands a env fs (after (eval_into (calls_in a) done (trees a ps) env (inside_of fs) s) (λ vs. eval (calls_in a) (tree a (task_at a n)) vs (inside_of fs))) (next_argument n (task_at a n) ps done env fs s)
argument a n [] done env fs s e = ap (λ (x : End Val). closed (unwound a fs env x)) (after_give (eval (calls_in a) (tree a (task_at a n)) done (inside_of fs) s))
argument a n (p ∷ ps) done env fs s e =
    let q : parts_from a n (suc (length done)) ≡ ps = drop_next (length done) (parts (node_at a n)) p ps e in
    sym (ap (λ (x : End Val). closed (unwound a fs env x))
    (after_after (eval (calls_in a) (tree a p) env (inside_of fs) s) (λ v. eval_into (calls_in a) (done ++ v ∷ []) (trees a ps) env (inside_of fs)) (λ vs. eval (calls_in a) (tree a (task_at a n)) vs (inside_of fs))
    ∙ ap (λ (qs : List ℕ). after (eval (calls_in a) (tree a p) env (inside_of fs) s) (λ v. eval_into (calls_in a) (done ++ v ∷ []) (trees a qs) env (inside_of fs) >>= λ vs. eval (calls_in a) (tree a (task_at a n)) vs (inside_of fs))) (sym q)))

turn : (a : Arena) (n times left : ℕ) (done env : List Val) (fs : List Frame) (s : State) → times - length done ≡ left
    → Stands a env fs (after (turns left (length done) done (λ e. eval (calls_in a) (tree a (body_at a n)) e (inside_of fs)) env s) (λ vs. answer (inside_of fs) (list_of vs))) (next_turn n times (body_at a n) left done env fs s)
turn a n times zero done env fs s e = leaf a env fs (answer (inside_of fs) (list_of done) s)
turn a n times (suc k) done env fs s e =
    let q : times - suc (length done) ≡ k = omega arith in
    rw (cut_back env (number (pos (length done)) ∷ [])) (sym (ap (λ (x : End Val). closed (unwound a fs env x))
    (after_after (eval (calls_in a) (tree a (body_at a n)) (env ++ number (pos (length done)) ∷ []) (inside_of fs) s) (λ v. turns k (suc (length done)) (done ++ v ∷ []) (λ e. eval (calls_in a) (tree a (body_at a n)) e (inside_of fs)) env) (λ vs. answer (inside_of fs) (list_of vs))
    ∙ ap (λ (j : ℕ). after (eval (calls_in a) (tree a (body_at a n)) (env ++ number (pos (length done)) ∷ []) (inside_of fs) s) (λ v. turns j (suc (length done)) (done ++ v ∷ []) (λ e. eval (calls_in a) (tree a (body_at a n)) e (inside_of fs)) env >>= λ vs. answer (inside_of fs) (list_of vs))) (sym q))))

first : (a : Arena) (n : ℕ) (count : Result ℤ Fault) (env : List Val) (fs : List Frame) (s : State)
    → Stands a env fs (for_each (inside_of fs) count (λ e. eval (calls_in a) (tree a (body_at a n)) e (inside_of fs)) env s) (first_turn n (body_at a n) count env fs s)
first a n (Ok (pos k)) env fs s = turn a n k k [] env fs s (omega arith)
first a n (Ok (negsuc k)) env fs s = leaf a env fs (fail (inside_of fs) WrongType s)
first a n (Err k) env fs s = leaf a env fs (fail (inside_of fs) k s)

chosen : (a : Arena) (env : List Val) (fs : List Frame) (s : State) (b : Bool) (x y : Run Val) (p q : Run Point)
    → Stands a env fs (x s) (p s) → Stands a env fs (y s) (q s) → Stands a env fs (choose b x y s) (choose b p q s)
chosen a env fs s true x y p q h i = h
chosen a env fs s false x y p q h i = i

by_node : (a : Arena) (env : List Val) (fs : List Frame) (e : End Val) (g : Node → Val → Run Val) (x y : Node) → x ≡ y
    → closed (unwound a fs env (after e (g x))) ≡ closed (unwound a fs env (after e (g y)))
by_node a env fs e g x y p = ap (λ (z : Node). closed (unwound a fs env (after e (g z)))) p

-- the first node of a task's body
pub first_there : (ns : List ℕ) (k : ℕ) → k < length ns → slice_get ns k ≡ Some (unwrap_or (slice_get ns k) 0)
first_there [] k h = absurd (omega arith)
first_there (n ∷ ns) zero h = refl
first_there (n ∷ ns) (suc k) h = first_there ns k (omega arith)

node_stands : (a : Arena) → IsScript a → (n : ℕ) (x : Node) → IsOnTasks (length a.tasks) x → (env : List Val) (fs : List Frame) (s : State) → node_at a n ≡ x
    → Stands a env fs (eval (calls_in a) (shape (tree_at a.nodes) x) env (inside_of fs) s) (visited a n x env fs s)
node_stands a i n (node.Lit v) on env fs s e = leaf a env fs (copied (inside_of fs) (meaning v) s)
node_stands a i n (node.Var k) on env fs s e = leaf a env fs (copied (inside_of fs) (value_at env k) s)
node_stands a i n (node.Let ps b) on env fs s e =
    acts a env fs (charge (inside_of fs) 1 s) (λ _. eval_into (calls_in a) [] (trees a ps) env (inside_of fs) >>= λ vs. eval (calls_in a) (tree a b) (env ++ vs) (inside_of fs)) (λ _. next_binding n ps b [] env fs)
    (λ _ t. let h = binding a n ps [] env fs t (ap (λ (x : Node). drop 0 (bindings_in x)) e ∙ drop_all ps) in rw e at h)
node_stands a i n (node.Seq ps) on env fs s e =
    acts a env fs (charge (inside_of fs) 1 s) (λ _. eval_while (calls_in a) is_any (truth false) (trees a ps) env (inside_of fs)) (λ _. next_part (in_seq n 0) ps (truth false) env fs)
    (λ _ t. seq_part a n 0 ps (truth false) env fs t (ap (λ (x : Node). drop 0 (parts x)) e ∙ drop_all ps))
node_stands a i n (node.If t x y) on env fs s e =
    acts a env fs (charge (inside_of fs) 1 s) (λ _. eval (calls_in a) (tree a t) env (inside_of fs) >>= λ v. choose (is_false v) (eval (calls_in a) (tree a y) env (inside_of fs)) (eval (calls_in a) (tree a x) env (inside_of fs))) (λ _. visits t env (in_if n 0 ∷ fs))
    (λ _ u. by_node a env fs (eval (calls_in a) (tree a t) env (inside_of fs) u) (λ z v. choose (is_false v) (eval (calls_in a) (tree a (part_in z 2)) env (inside_of fs)) (eval (calls_in a) (tree a (part_in z 1)) env (inside_of fs))) _ _ e)
node_stands a i n (node.And ps) on env fs s e =
    acts a env fs (charge (inside_of fs) 1 s) (λ _. eval_while (calls_in a) is_not_false (truth true) (trees a ps) env (inside_of fs)) (λ _. next_part (in_and n 0) ps (truth true) env fs)
    (λ _ t. and_part a n 0 ps (truth true) env fs t (ap (λ (x : Node). drop 0 (parts x)) e ∙ drop_all ps))
node_stands a i n (node.Or ps) on env fs s e =
    acts a env fs (charge (inside_of fs) 1 s) (λ _. eval_while (calls_in a) is_false (truth false) (trees a ps) env (inside_of fs)) (λ _. next_part (in_or n 0) ps (truth false) env fs)
    (λ _ t. or_part a n 0 ps (truth false) env fs t (ap (λ (x : Node). drop 0 (parts x)) e ∙ drop_all ps))
node_stands a i n (node.For c b) on env fs s e =
    acts a env fs (charge (inside_of fs) 1 s) (λ _. eval (calls_in a) (tree a c) env (inside_of fs) >>= λ v. for_each (inside_of fs) (as_number v) (λ e. eval (calls_in a) (tree a b) e (inside_of fs)) env) (λ _. visits c env (in_count n ∷ fs))
    (λ _ u. by_node a env fs (eval (calls_in a) (tree a c) env (inside_of fs) u) (λ z v. for_each (inside_of fs) (as_number v) (λ e. eval (calls_in a) (tree a (body_in z)) e (inside_of fs)) env) _ _ e)
node_stands a i n (node.Prim o ps) on env fs s e =
    acts a env fs (charge (inside_of fs) 1 s) (λ _. eval_into (calls_in a) [] (trees a ps) env (inside_of fs) >>= λ vs. answer (inside_of fs) (value_of o vs)) (λ _. next_operand n o ps [] env fs)
    (λ _ t. let h = operand a n ps [] env fs t (ap (λ (x : Node). drop 0 (parts x)) e ∙ drop_all ps) in rw e at h)
node_stands a i n (node.Call k ps) on env fs s e =
    let is : task_at a n ≡ first_of a k = ap (λ (x : Node). first_of a (task_in x)) e in
    acts a env fs (charge (inside_of fs) 1 s) (λ _. eval_into (calls_in a) [] (trees a ps) env (inside_of fs) >>= λ vs. calls_in a k vs (inside_of fs)) (λ _. next_argument n (first_of a k) ps [] env fs)
    (λ _ t.
    let h = argument a n ps [] env fs t (ap (λ (x : Node). drop 0 (parts x)) e ∙ drop_all ps) in
    let same = called a k (first_of a k) i (first_there a.tasks k on) in
    rw (same, ← is) h)
node_stands a i n (node.Send kind b) on env fs s e =
    acts a env fs (charge (inside_of fs) 1 s) (λ _. url >>= λ u. eval (calls_in a) (tree a b) (env ++ u ∷ []) (inside_of fs) >>= send_page (inside_of fs) kind) (λ _. url >>= λ u. visits b (env ++ u ∷ []) (in_page n kind ∷ fs))
    (λ _ t. acts a env fs (url t) (λ u. eval (calls_in a) (tree a b) (env ++ u ∷ []) (inside_of fs) >>= send_page (inside_of fs) kind) (λ u. visits b (env ++ u ∷ []) (in_page n kind ∷ fs)) (λ u w. rw (cut_back env (u ∷ [])) refl))
node_stands a i n (node.Finish b) on env fs s e =
    acts a env fs (charge (inside_of fs) 1 s) (λ _. eval (calls_in a) (tree a b) env (inside_of fs) >>= halt (inside_of fs) finishes) (λ _. visits b env (in_finish n ∷ fs)) (λ _ u. refl)
node_stands a i n (node.Back b) on env fs s e =
    acts a env fs (charge (inside_of fs) 1 s) (λ _. eval (calls_in a) (tree a b) env (inside_of fs) >>= halt (inside_of fs) ends) (λ _. visits b env (in_back n ∷ fs)) (λ _ u. refl)
node_stands a i n (node.Isolate b) on env fs s e =
    acts a env fs (enter (inside_of fs) s) (λ name. eval (calls_in a) (tree a b) env (inside_of fs ++ name ∷ []) >>= leave name) (λ name. visits b env (in_isolate n name ∷ fs)) (λ name u. refl)
node_stands a i n (node.CellRef c) on env fs s e = leaf a env fs ((lookup c >>= copied (inside_of fs)) s)
node_stands a i n (node.CellShadow c b) on env fs s e =
    acts a env fs (charge (inside_of fs) 1 s) (λ _. eval (calls_in a) (tree a b) env (inside_of fs) >>= store_by (node.CellShadow c b) (inside_of fs)) (λ _. visits b env (in_store n ∷ fs)) (λ _ u. by_node a env fs (eval (calls_in a) (tree a b) env (inside_of fs) u) (λ z. store_by z (inside_of fs)) _ _ e)
node_stands a i n (node.InstRef c) on env fs s e = leaf a env fs ((read_cell c >>= copied (inside_of fs)) s)
node_stands a i n (node.InstSet c b) on env fs s e =
    acts a env fs (charge (inside_of fs) 1 s) (λ _. eval (calls_in a) (tree a b) env (inside_of fs) >>= store_by (node.InstSet c b) (inside_of fs)) (λ _. visits b env (in_store n ∷ fs)) (λ _ u. by_node a env fs (eval (calls_in a) (tree a b) env (inside_of fs) u) (λ z. store_by z (inside_of fs)) _ _ e)
node_stands a i n (node.InstAdd c b) on env fs s e =
    acts a env fs (charge (inside_of fs) 1 s) (λ _. eval (calls_in a) (tree a b) env (inside_of fs) >>= store_by (node.InstAdd c b) (inside_of fs)) (λ _. visits b env (in_store n ∷ fs)) (λ _ u. by_node a env fs (eval (calls_in a) (tree a b) env (inside_of fs) u) (λ z. store_by z (inside_of fs)) _ _ e)

-- a part after one more value
more_behind : (xs : List ℕ) (done : List Val) (v : Val) → drop (length (done ++ v ∷ [])) xs ≡ drop (suc (length done)) xs
more_behind xs done v = ap (λ (k : ℕ). drop k xs) (length_more done v)

frame_stands : (a : Arena) (f : Frame) (v : Val) (env : List Val) (fs : List Frame) (s : State)
    → Stands a env fs (rest a f env (inside_of fs) v s) (taken a f v env fs s)
frame_stands a (in_binding n done) v env fs s = binding a n (bindings_from a n (suc (length done))) (done ++ v ∷ []) env fs s (more_behind (bindings_in (node_at a n)) done v)
frame_stands a (in_operand n done) v env fs s = operand a n (parts_from a n (suc (length done))) (done ++ v ∷ []) env fs s (more_behind (parts (node_at a n)) done v)
frame_stands a (in_call n done) v env fs s = argument a n (parts_from a n (suc (length done))) (done ++ v ∷ []) env fs s (more_behind (parts (node_at a n)) done v)
frame_stands a (in_task n k outer) v env fs s = refl
frame_stands a (in_body n bound) v env fs s = refl
frame_stands a (in_seq n k) v env fs s = seq_part a n (suc k) (parts_from a n (suc k)) v env fs s refl
frame_stands a (in_and n k) v env fs s =
    chosen a env fs s (is_not_false v) (eval_while (calls_in a) is_not_false v (trees a (parts_from a n (suc k))) env (inside_of fs)) (give v) (next_part (in_and n (suc k)) (parts_from a n (suc k)) v env fs) (gives v env fs)
    (and_part a n (suc k) (parts_from a n (suc k)) v env fs s refl) refl
frame_stands a (in_or n k) v env fs s =
    chosen a env fs s (is_false v) (eval_while (calls_in a) is_false v (trees a (parts_from a n (suc k))) env (inside_of fs)) (give v) (next_part (in_or n (suc k)) (parts_from a n (suc k)) v env fs) (gives v env fs)
    (or_part a n (suc k) (parts_from a n (suc k)) v env fs s refl) refl
frame_stands a (in_if n zero) v env fs s =
    chosen a env fs s (is_false v) (eval (calls_in a) (tree a (part_at a n 2)) env (inside_of fs)) (eval (calls_in a) (tree a (part_at a n 1)) env (inside_of fs)) (visits (part_at a n 2) env (in_if n 2 ∷ fs)) (visits (part_at a n 1) env (in_if n 1 ∷ fs))
    (ap (λ (x : End Val). closed (unwound a fs env x)) (after_give (eval (calls_in a) (tree a (part_at a n 2)) env (inside_of fs) s)))
    (ap (λ (x : End Val). closed (unwound a fs env x)) (after_give (eval (calls_in a) (tree a (part_at a n 1)) env (inside_of fs) s)))
frame_stands a (in_if n (suc k)) v env fs s = refl
frame_stands a (in_count n) v env fs s = first a n (as_number v) env fs s
frame_stands a (in_turn n times done) v env fs s =
    let l = length_more done v in
    let h = turn a n times (times - suc (length done)) (done ++ v ∷ []) env fs s (omega arith) in
    rw l at h
frame_stands a (in_store n) v env fs s = leaf a env fs (store_by (node_at a n) (inside_of fs) v s)
frame_stands a (in_isolate n name) v env fs s = leaf a env fs (leave name v s)
frame_stands a (in_page n kind) v env fs s = leaf a env fs (send_page (inside_of fs) kind v s)
frame_stands a (in_finish n) v env fs s = leaf a env fs (halt (inside_of fs) finishes v s)
frame_stands a (in_back n) v env fs s = leaf a env fs (halt (inside_of fs) ends v s)

-- ## Nodes and their trees

tree_of_none : (nodes : List Node) (n bound : ℕ) → slice_get nodes n ≡ None → tree_within bound nodes n ≡ lit (truth false)
unfolding tree_within
tree_of_none nodes n zero e = refl
tree_of_none nodes n (suc bound) e = rw e refl

no_tree : (nodes : List Node) (n : ℕ) → slice_get nodes n ≡ None → tree_at nodes n ≡ lit (truth false)
unfolding tree_at
no_tree nodes n e = tree_of_none nodes n (length nodes) e

shaped_by : (a : Arena) → IsScript a → (n : ℕ) (x : Option Node) → slice_get a.nodes n ≡ x → tree_at a.nodes n ≡ shape (tree_at a.nodes) (unwrap_or x (node.Lit (Truth false)))
shaped_by a i n None e = no_tree a.nodes n e
shaped_by a i n (Some x) e = tree_at_node a i n x e

pub shaped : (a : Arena) → IsScript a → (n : ℕ) → tree_at a.nodes n ≡ shape (tree_at a.nodes) (node_at a n)
shaped a i n = shaped_by a i n (slice_get a.nodes n) refl

pub on_tasks : (a : Arena) → IsScript a → (n : ℕ) (x : Option Node) → slice_get a.nodes n ≡ x → IsOnTasks (length a.tasks) (unwrap_or x (node.Lit (Truth false)))
on_tasks a i n None e = tt
on_tasks a i n (Some x) e = node_on_tasks a i n x e

-- ## A step keeps what a state stands for

next_stands : (a : Arena) → IsScript a → (c : Control) (env : List Val) (fs : List Frame) (s : State)
    → meant_behind a (next a c env fs s) ≡ closed (meant_at a c env fs s)
next_stands a i (visit n) env fs s =
    node_stands a i n (node_at a n) (on_tasks a i n (slice_get a.nodes n) refl) env fs s refl ∙ ap (λ (c : Core). closed (unwound a fs env (eval (calls_in a) c env (inside_of fs) s))) (sym (shaped a i n))
next_stands a i (value v) env [] s = refl
next_stands a i (value v) env (f ∷ fs) s = frame_stands a f v (cut f env) fs s

stepped_means : (a : Arena) (env : List Val) (fs : List Frame) (r : End Point) → meant_step a (stepped env fs r) ≡ meant_behind a r
stepped_means a env fs (got p s) = refl
stepped_means a env fs (stop o names s) = refl

pub step_means : (a : Arena) → IsScript a → (m : Machine) → meant_step a (step a m) ≡ closed (meant a m.point m.state)
step_means a i m =
    let c = m.point.control in let env = m.point.env in let fs = m.point.frames in
    stepped_means a (outer_env c env fs) (outer_frames c fs) (next a c env fs m.state) ∙ next_stands a i c env fs m.state

on_means : (a : Arena) (f : Machine → Step) (x : Step) → ((m : Machine) → meant_step a (f m) ≡ closed (meant a m.point m.state))
    → meant_step a (then f x) ≡ meant_step a x
on_means a f (goes m) h = h m
on_means a f (stopped o names d s) h = refl

-- what a machine comes to in any number of steps is what the evaluator comes to
pub steps_mean : (a : Arena) → IsScript a → (k : ℕ) (m : Machine) → meant_step a (steps a k m) ≡ closed (meant a m.point m.state)
steps_mean a i zero m = refl
steps_mean a i (suc k) m = on_means a (steps a k) (step a m) (steps_mean a i k) ∙ step_means a i m
