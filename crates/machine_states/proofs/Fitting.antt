-- Each state that is kept fits its script.
use Rattle.std.proofs.Common.{None, Option, ◌≡◌, ◌⊎◌, inl, inr, ℕ, zero, suc, ◌-◌, ◌<◌, ◌≤◌, ℤ, pos, negsuc, List, [], ◌∷◌, ◌++◌, length, drop, refl, sym, ap, subst, ◌∙◌, arith, Some, slice_get, Bool, true, false, Result, Ok, Err}
use Rattle.std.specs.Prelude.{unwrap_or}
use Rattle.script_value.specs.Val.{Val, number, truth}
use Rattle.script_value.specs.Views.{meaning}
use Rattle.script_value.specs.declared.value.Value.{Value}
use Rattle.script_value.specs.declared.value.Value.TheVariants.{Truth}
use Rattle.script_value.specs.declared.outcome.Op.{Op}
use Rattle.script_value.specs.declared.outcome.Fault.{Fault}
use Rattle.script_value.specs.declared.outcome.TxName.{TxName}
use Rattle.script_nodes.specs.PrimSpec.Table.{value_of, is_false}
use Rattle.script_nodes.specs.PrimSpec.Lists.{list_of}
use Rattle.script_nodes.specs.declared.script.Node.{Node}
use Rattle.script_nodes.specs.declared.script.Node.TheVariants as node
use Rattle.script_nodes.specs.declared.script.SendKind.{SendKind}
use Rattle.script_nodes.specs.Arena.{Arena, parts}
use Rattle.replay_spec.specs.Tape.{recorded, Answer, sent, State, Outcome, End, got, stop, Run, ◌>>=◌, after, answer, choose, charge, url, halt, ends, send_page, enter, leave, lookup, read_cell, as_number}
use Rattle.replay_spec.specs.Eval.{value_at, copied, is_not_false}
use Rattle.replay_spec.specs.Laws.{Waits}
use Rattle.replay_spec.proofs.Follows.{more}
use Rattle.machine_states.specs.Machine.{Frame, in_binding, in_operand, in_body, in_seq, in_and, in_or, in_if, in_count, in_store, in_turn, in_isolate, in_call, in_task, in_page, in_finish, in_back, Control, visit, value, Point, inside_of, visits, gives, given, node_at, part_in, part_at, parts_from, bindings_from, bindings_in, body_at, body_in, op_at, first_of, task_in, task_at, store_by, next_binding, next_part, next_operand, next_argument, next_turn, first_turn, visited, cut, taken, Machine, Suspended, Step, goes, stopped, stepped, step_at, step, then, steps}
use Rattle.machine_states.specs.Laws.{started}
use Rattle.machine_states.specs.Fits.{node_of, IsKind, IsPart, Binds, Works, FitsAt, IsSend, Fits, EachStateFits}
use Rattle.machine_states.proofs.Meaning.{cut_back, length_more, drop_all}
use Rattle.machine_states.proofs.Acts.{IsPlain, visited_paid, taken_any, any_given, plain_or_page}
use Rattle.machine_states.proofs.Grow.{Grows, Grown, law}

-- ## Kinds

is_let : (n : ℕ) (done : List Val) (x : Node) → IsKind (in_binding n done) x → x ≡ node.Let (bindings_in x) (body_in x)
is_let n done x h = grind (arith, h)

pub few_done : (n : ℕ) (done : List Val) (x : Node) → IsKind (in_binding n done) x → length done < length (bindings_in x)
few_done n done x h = grind (arith, h)

is_for : (n turns : ℕ) (done : List Val) (x : Node) → IsKind (in_turn n turns done) x → x ≡ node.For (part_in x 0) (body_in x)
is_for n turns done x h = grind (arith, h)

is_count : (n : ℕ) (x : Node) → IsKind (in_count n) x → x ≡ node.For (part_in x 0) (body_in x)
is_count n x h = grind (arith, h)

is_call : (n : ℕ) (done : List Val) (x : Node) → IsKind (in_call n done) x → x ≡ node.Call (task_in x) (parts x)
is_call n done x h = grind (arith, h)

pub few_given : (n : ℕ) (done : List Val) (x : Node) → IsKind (in_call n done) x → length done < length (parts x)
few_given n done x h = grind (arith, h)

is_if : (n k : ℕ) (x : Node) → IsKind (in_if n k) x → x ≡ node.If (part_in x 0) (part_in x 1) (part_in x 2)
is_if n k x h = grind (arith, h)

is_page : (n : ℕ) (kind : SendKind) (x : Node) → IsKind (in_page n kind) x → IsSend x
is_page n kind x h = grind (arith, h)

-- ## Lists

get_of_drop : (k : ℕ) (xs : List ℕ) (p : ℕ) (ps : List ℕ) → drop k xs ≡ p ∷ ps → slice_get xs k ≡ Some p
get_of_drop zero [] p ps e = absurd (cc)
get_of_drop zero (x ∷ xs) p ps e = cc
get_of_drop (suc k) [] p ps e = absurd (cc)
get_of_drop (suc k) (x ∷ xs) p ps e = get_of_drop k xs p ps e

short_drop : (k : ℕ) (xs : List ℕ) (p : ℕ) (ps : List ℕ) → drop k xs ≡ p ∷ ps → k < length xs
short_drop k [] p ps e = absurd (no k e)
  where
    no : (k : ℕ) → drop k [] ≡ p ∷ ps → ⊥
    no zero e = absurd (cc)
    no (suc k) e = absurd (cc)
short_drop zero (x ∷ xs) p ps e = omega arith
short_drop (suc k) (x ∷ xs) p ps e = omega (arith, short_drop k xs p ps e)

long_drop : (k : ℕ) (xs : List ℕ) → drop k xs ≡ [] → length xs ≤ k
long_drop k [] e = omega arith
long_drop zero (x ∷ xs) e = absurd (cc)
long_drop (suc k) (x ∷ xs) e = omega (arith, long_drop k xs e)

get_front : (xs ys : List ℕ) (k p : ℕ) → slice_get xs k ≡ Some p → slice_get (xs ++ ys) k ≡ Some p
get_front [] ys k p e = absurd (cc)
get_front (x ∷ xs) ys zero p e = e
get_front (x ∷ xs) ys (suc k) p e = get_front xs ys k p e

get_seam : (xs : List ℕ) (y k : ℕ) → k ≡ length xs → slice_get (xs ++ y ∷ []) k ≡ Some y
get_seam xs y k e = rw e (seam xs)
  where
    seam : (xs : List ℕ) → slice_get (xs ++ y ∷ []) (length xs) ≡ Some y
    seam [] = refl
    seam (x ∷ xs) = seam xs

-- ## Frames

cut_outer : (f : Frame) (outer env : List Val) → Binds f outer env → cut f env ≡ outer
cut_outer (in_body n bound) outer env b = rw (b.1.1, ← b.1.0) (cut_back outer b.0)
cut_outer (in_turn n turns done) outer env b = rw b (cut_back outer (number (pos (length done)) ∷ []))
cut_outer (in_page n kind) outer env b = rw b.1 (cut_back outer (b.0 ∷ []))
cut_outer (in_binding n done) outer env b = b
cut_outer (in_operand n done) outer env b = b
cut_outer (in_call n done) outer env b = b
cut_outer (in_task n k saved) outer env b = sym b.0
cut_outer (in_seq n k) outer env b = b
cut_outer (in_and n k) outer env b = b
cut_outer (in_or n k) outer env b = b
cut_outer (in_if n k) outer env b = b
cut_outer (in_count n) outer env b = b
cut_outer (in_store n) outer env b = b
cut_outer (in_isolate n name) outer env b = b
cut_outer (in_finish n) outer env b = b
cut_outer (in_back n) outer env b = b

-- one more frame, on a node that is known
push : (a : Arena) (f : Frame) (fs : List Frame) (x : Node) (p : ℕ) (outer env : List Val) → node_at a (node_of f) ≡ x → IsKind f x → IsPart a f x p
    → Binds f outer env → Works a fs (node_of f) outer → Works a (f ∷ fs) p env
push a f fs x p outer env e kind place binds w =
    (subst (λ (z : Node). IsKind f z) (sym e) kind, (subst (λ (z : Node). IsPart a f z p) (sym e) place, (outer, (binds, w))))

-- ## What is next

abbrev Suits : Arena → End Point → Type 0
Suits a (got p s) = FitsAt a p.control p.env p.frames
Suits a (stop o names s) = Unit {0}

acts : {A : Type 0} (a : Arena) (e : End A) (k : A → Run Point) → ((x : A) (s : State) → Suits a (k x s)) → Suits a (after e k)
acts a (got x s) k h = h x s
acts a (stop o names s) k h = tt

leaf : (a : Arena) (n : ℕ) (env : List Val) (fs : List Frame) → Works a fs n env → (e : End Val) → Suits a (after e (λ v. gives v env fs))
leaf a n env fs w e = acts a e (λ v. gives v env fs) (λ v s. (n, w))

chosen : (a : Arena) (b : Bool) (p q : Run Point) (s : State) → Suits a (p s) → Suits a (q s) → Suits a (choose b p q s)
chosen a true p q s h k = h
chosen a false p q s h k = k

binding : (a : Arena) (n : ℕ) (ps : List ℕ) (done env : List Val) (fs : List Frame) (s : State) → node_at a n ≡ node.Let (bindings_in (node_at a n)) (body_at a n)
    → length done ≤ length (bindings_in (node_at a n)) → bindings_from a n (length done) ≡ ps → Works a fs n env → Suits a (next_binding n ps (body_at a n) done env fs s)
binding a n [] done env fs s is few e w =
    let bs = bindings_in (node_at a n) in
    let long = long_drop (length done) bs e in
    let all : length done ≡ length bs = omega arith in
    push a (in_body n (length done)) fs (node.Let bs (body_at a n)) (body_at a n) env (env ++ done) is all (get_seam bs (body_at a n) (length done) all) (done, (refl, refl)) w
binding a n (p ∷ ps) done env fs s is few e w =
    let bs = bindings_in (node_at a n) in
    push a (in_binding n done) fs (node.Let bs (body_at a n)) p env env is (short_drop (length done) bs p ps e) (get_front bs (body_at a n ∷ []) (length done) p (get_of_drop (length done) bs p ps e)) refl w

seq_part : (a : Arena) (n k : ℕ) (ps : List ℕ) (v : Val) (env : List Val) (fs : List Frame) (s : State) → IsKind (in_seq n k) (node_at a n) → parts_from a n k ≡ ps → Works a fs n env
    → Suits a (next_part (in_seq n k) ps v env fs s)
seq_part a n k [] v env fs s kind e w = (n, w)
seq_part a n k (p ∷ ps) v env fs s kind e w = push a (in_seq n k) fs (node_at a n) p env env refl kind (get_of_drop k (parts (node_at a n)) p ps e) refl w

and_part : (a : Arena) (n k : ℕ) (ps : List ℕ) (v : Val) (env : List Val) (fs : List Frame) (s : State) → IsKind (in_and n k) (node_at a n) → parts_from a n k ≡ ps → Works a fs n env
    → Suits a (next_part (in_and n k) ps v env fs s)
and_part a n k [] v env fs s kind e w = (n, w)
and_part a n k (p ∷ ps) v env fs s kind e w = push a (in_and n k) fs (node_at a n) p env env refl kind (get_of_drop k (parts (node_at a n)) p ps e) refl w

or_part : (a : Arena) (n k : ℕ) (ps : List ℕ) (v : Val) (env : List Val) (fs : List Frame) (s : State) → IsKind (in_or n k) (node_at a n) → parts_from a n k ≡ ps → Works a fs n env
    → Suits a (next_part (in_or n k) ps v env fs s)
or_part a n k [] v env fs s kind e w = (n, w)
or_part a n k (p ∷ ps) v env fs s kind e w = push a (in_or n k) fs (node_at a n) p env env refl kind (get_of_drop k (parts (node_at a n)) p ps e) refl w

operand : (a : Arena) (n : ℕ) (o : Op) (ps : List ℕ) (done env : List Val) (fs : List Frame) (s : State) → IsKind (in_operand n done) (node_at a n) → parts_from a n (length done) ≡ ps → Works a fs n env
    → Suits a (next_operand n o ps done env fs s)
operand a n o [] done env fs s kind e w = leaf a n env fs w (answer (inside_of fs) (value_of o done) s)
operand a n o (p ∷ ps) done env fs s kind e w = push a (in_operand n done) fs (node_at a n) p env env refl kind (get_of_drop (length done) (parts (node_at a n)) p ps e) refl w

argument : (a : Arena) (n : ℕ) (ps : List ℕ) (done env : List Val) (fs : List Frame) (s : State) → node_at a n ≡ node.Call (task_in (node_at a n)) (parts (node_at a n))
    → length done ≤ length (parts (node_at a n)) → parts_from a n (length done) ≡ ps → Works a fs n env → Suits a (next_argument n (task_at a n) ps done env fs s)
argument a n [] done env fs s is few e w =
    let all = parts (node_at a n) in
    let long = long_drop (length done) all e in
    push a (in_task n (length done) env) fs (node.Call (task_in (node_at a n)) all) (task_at a n) env done is (omega arith) refl (refl, refl) w
argument a n (p ∷ ps) done env fs s is few e w =
    let all = parts (node_at a n) in
    push a (in_call n done) fs (node.Call (task_in (node_at a n)) all) p env env is (short_drop (length done) all p ps e) (get_of_drop (length done) all p ps e) refl w

turn : (a : Arena) (n times left : ℕ) (done env : List Val) (fs : List Frame) (s : State) → node_at a n ≡ node.For (part_in (node_at a n) 0) (body_at a n) → times - length done ≡ left → Works a fs n env
    → Suits a (next_turn n times (body_at a n) left done env fs s)
turn a n times zero done env fs s is e w = leaf a n env fs w (answer (inside_of fs) (list_of done) s)
turn a n times (suc k) done env fs s is e w =
    push a (in_turn n times done) fs (node.For (part_in (node_at a n) 0) (body_at a n)) (body_at a n) env (env ++ number (pos (length done)) ∷ []) is (omega arith) refl refl w

first : (a : Arena) (n : ℕ) (count : Result ℤ Fault) (env : List Val) (fs : List Frame) (s : State) → node_at a n ≡ node.For (part_in (node_at a n) 0) (body_at a n) → Works a fs n env
    → Suits a (first_turn n (body_at a n) count env fs s)
first a n (Ok (pos k)) env fs s is w = turn a n k k [] env fs s is (omega arith) w
first a n (Ok (negsuc k)) env fs s is w = tt
first a n (Err k) env fs s is w = tt

node_suits : (a : Arena) (n : ℕ) (x : Node) → node_at a n ≡ x → (env : List Val) (fs : List Frame) (s : State) → Works a fs n env → Suits a (visited a n x env fs s)
node_suits a n (node.Lit v) e env fs s w = leaf a n env fs w (copied (inside_of fs) (meaning v) s)
node_suits a n (node.Var k) e env fs s w = leaf a n env fs w (copied (inside_of fs) (value_at env k) s)
node_suits a n (node.Let ps b) e env fs s w =
    let same : body_at a n ≡ b = ap body_in e in
    let all : bindings_in (node_at a n) ≡ ps = ap bindings_in e in
    acts a (charge (inside_of fs) 1 s) (λ _. next_binding n ps b [] env fs) (λ _ t.
    subst (λ (c : ℕ). Suits a (next_binding n ps c [] env fs t)) same
    (binding a n ps [] env fs t (e ∙ sym (ap (λ (y : Node). node.Let (bindings_in y) (body_in y)) e)) (omega arith) (ap (λ (y : Node). drop 0 (bindings_in y)) e ∙ drop_all ps) w))
node_suits a n (node.Seq ps) e env fs s w =
    acts a (charge (inside_of fs) 1 s) (λ _. next_part (in_seq n 0) ps (truth false) env fs) (λ _ t.
    seq_part a n 0 ps (truth false) env fs t (subst (λ (z : Node). IsKind (in_seq n 0) z) (sym e) tt) (ap (λ (y : Node). drop 0 (parts y)) e ∙ drop_all ps) w)
node_suits a n (node.If c x y) e env fs s w =
    acts a (charge (inside_of fs) 1 s) (λ _. visits c env (in_if n 0 ∷ fs)) (λ _ t. push a (in_if n 0) fs (node.If c x y) c env env e tt refl refl w)
node_suits a n (node.And ps) e env fs s w =
    acts a (charge (inside_of fs) 1 s) (λ _. next_part (in_and n 0) ps (truth true) env fs) (λ _ t.
    and_part a n 0 ps (truth true) env fs t (subst (λ (z : Node). IsKind (in_and n 0) z) (sym e) tt) (ap (λ (y : Node). drop 0 (parts y)) e ∙ drop_all ps) w)
node_suits a n (node.Or ps) e env fs s w =
    acts a (charge (inside_of fs) 1 s) (λ _. next_part (in_or n 0) ps (truth false) env fs) (λ _ t.
    or_part a n 0 ps (truth false) env fs t (subst (λ (z : Node). IsKind (in_or n 0) z) (sym e) tt) (ap (λ (y : Node). drop 0 (parts y)) e ∙ drop_all ps) w)
node_suits a n (node.For c b) e env fs s w =
    acts a (charge (inside_of fs) 1 s) (λ _. visits c env (in_count n ∷ fs)) (λ _ t. push a (in_count n) fs (node.For c b) c env env e tt refl refl w)
node_suits a n (node.Prim o ps) e env fs s w =
    acts a (charge (inside_of fs) 1 s) (λ _. next_operand n o ps [] env fs) (λ _ t.
    operand a n o ps [] env fs t (subst (λ (z : Node). IsKind (in_operand n []) z) (sym e) tt) (ap (λ (y : Node). drop 0 (parts y)) e ∙ drop_all ps) w)
node_suits a n (node.Call k ps) e env fs s w =
    let same : task_at a n ≡ first_of a k = ap (λ (y : Node). first_of a (task_in y)) e in
    acts a (charge (inside_of fs) 1 s) (λ _. next_argument n (first_of a k) ps [] env fs) (λ _ t.
    subst (λ (c : ℕ). Suits a (next_argument n c ps [] env fs t)) same
    (argument a n ps [] env fs t (e ∙ sym (ap (λ (y : Node). node.Call (task_in y) (parts y)) e)) (omega arith) (ap (λ (y : Node). drop 0 (parts y)) e ∙ drop_all ps) w))
node_suits a n (node.Send kind b) e env fs s w =
    acts a (charge (inside_of fs) 1 s) (λ _. url >>= λ u. visits b (env ++ u ∷ []) (in_page n kind ∷ fs)) (λ _ t.
    acts a (url t) (λ u. visits b (env ++ u ∷ []) (in_page n kind ∷ fs)) (λ u z. push a (in_page n kind) fs (node.Send kind b) b env (env ++ u ∷ []) e refl refl (u, refl) w))
node_suits a n (node.Finish b) e env fs s w =
    acts a (charge (inside_of fs) 1 s) (λ _. visits b env (in_finish n ∷ fs)) (λ _ t. push a (in_finish n) fs (node.Finish b) b env env e tt refl refl w)
node_suits a n (node.Back b) e env fs s w =
    acts a (charge (inside_of fs) 1 s) (λ _. visits b env (in_back n ∷ fs)) (λ _ t. push a (in_back n) fs (node.Back b) b env env e tt refl refl w)
node_suits a n (node.Isolate b) e env fs s w =
    acts a (enter (inside_of fs) s) (λ name. visits b env (in_isolate n name ∷ fs)) (λ name t. push a (in_isolate n name) fs (node.Isolate b) b env env e tt refl refl w)
node_suits a n (node.CellRef c) e env fs s w = leaf a n env fs w ((lookup c >>= copied (inside_of fs)) s)
node_suits a n (node.CellShadow c b) e env fs s w =
    acts a (charge (inside_of fs) 1 s) (λ _. visits b env (in_store n ∷ fs)) (λ _ t. push a (in_store n) fs (node.CellShadow c b) b env env e tt refl refl w)
node_suits a n (node.InstRef c) e env fs s w = leaf a n env fs w ((read_cell c >>= copied (inside_of fs)) s)
node_suits a n (node.InstSet c b) e env fs s w =
    acts a (charge (inside_of fs) 1 s) (λ _. visits b env (in_store n ∷ fs)) (λ _ t. push a (in_store n) fs (node.InstSet c b) b env env e tt refl refl w)
node_suits a n (node.InstAdd c b) e env fs s w =
    acts a (charge (inside_of fs) 1 s) (λ _. visits b env (in_store n ∷ fs)) (λ _ t. push a (in_store n) fs (node.InstAdd c b) b env env e tt refl refl w)

-- a frame takes a value, in the variables outside
frame_suits : (a : Arena) (f : Frame) (v : Val) (env : List Val) (fs : List Frame) (s : State) → IsKind f (node_at a (node_of f)) → Works a fs (node_of f) env → Suits a (taken a f v env fs s)
frame_suits a (in_binding n done) v env fs s kind w =
    let few = few_done n done (node_at a n) kind in
    let l = length_more done v in
    binding a n (bindings_from a n (suc (length done))) (done ++ v ∷ []) env fs s (is_let n done (node_at a n) kind) (omega arith) (ap (λ (k : ℕ). bindings_from a n k) l) w
frame_suits a (in_operand n done) v env fs s kind w =
    operand a n (op_at a n) (parts_from a n (suc (length done))) (done ++ v ∷ []) env fs s kind (ap (λ (k : ℕ). parts_from a n k) (length_more done v)) w
frame_suits a (in_call n done) v env fs s kind w =
    let few = few_given n done (node_at a n) kind in
    let l = length_more done v in
    argument a n (parts_from a n (suc (length done))) (done ++ v ∷ []) env fs s (is_call n done (node_at a n) kind) (omega arith) (ap (λ (k : ℕ). parts_from a n k) l) w
frame_suits a (in_task n k outer) v env fs s kind w = (n, w)
frame_suits a (in_body n bound) v env fs s kind w = (n, w)
frame_suits a (in_seq n k) v env fs s kind w = seq_part a n (suc k) (parts_from a n (suc k)) v env fs s kind refl w
frame_suits a (in_and n k) v env fs s kind w =
    chosen a (is_not_false v) (next_part (in_and n (suc k)) (parts_from a n (suc k)) v env fs) (gives v env fs) s (and_part a n (suc k) (parts_from a n (suc k)) v env fs s kind refl w) (n, w)
frame_suits a (in_or n k) v env fs s kind w =
    chosen a (is_false v) (next_part (in_or n (suc k)) (parts_from a n (suc k)) v env fs) (gives v env fs) s (or_part a n (suc k) (parts_from a n (suc k)) v env fs s kind refl w) (n, w)
frame_suits a (in_if n zero) v env fs s kind w =
    let is = is_if n zero (node_at a n) kind in
    let x = node.If (part_in (node_at a n) 0) (part_in (node_at a n) 1) (part_in (node_at a n) 2) in
    chosen a (is_false v) (visits (part_at a n 2) env (in_if n 2 ∷ fs)) (visits (part_at a n 1) env (in_if n 1 ∷ fs)) s
    (push a (in_if n 2) fs x (part_at a n 2) env env is tt refl refl w) (push a (in_if n 1) fs x (part_at a n 1) env env is tt refl refl w)
frame_suits a (in_if n (suc k)) v env fs s kind w = (n, w)
frame_suits a (in_count n) v env fs s kind w = first a n (as_number v) env fs s (is_count n (node_at a n) kind) w
frame_suits a (in_turn n times done) v env fs s kind w =
    turn a n times (times - suc (length done)) (done ++ v ∷ []) env fs s (is_for n times done (node_at a n) kind) (ap (λ (k : ℕ). times - k) (length_more done v)) w
frame_suits a (in_store n) v env fs s kind w = leaf a n env fs w (store_by (node_at a n) (inside_of fs) v s)
frame_suits a (in_isolate n name) v env fs s kind w = leaf a n env fs w (leave name v s)
frame_suits a (in_page n sent) v env fs s kind w = leaf a n env fs w (send_page (inside_of fs) sent v s)
frame_suits a (in_finish n) v env fs s kind w = tt
frame_suits a (in_back n) v env fs s kind w = tt

-- ## Stops

-- what is kept at a page that waits
abbrev pub FitsStep : Arena → Step → Type 0
FitsStep a (goes m) = FitsAt a m.point.control m.point.env m.point.frames
FitsStep a (stopped o names d s) = Waits o → Fits a d

-- an end that is no page that waits
abbrev Plain : {A : Type 0} → End A → Type 0
Plain (got v s) = Unit {0}
Plain (stop o names s) = Waits o → ⊥

-- any answer: a run that would take none does not wait for one
plain_by : (x : Answer) {A : Type 0} (e d : End A) → Grows x e d → Plain e
plain_by x (got v s) d h = tt
plain_by x (stop o names s) d h = h

stepped_fits : (a : Arena) (env : List Val) (fs : List Frame) (e : End Point) → Suits a e → Plain e → FitsStep a (stepped env fs e)
stepped_fits a env fs (got p s) h k = h
stepped_fits a env fs (stop o names s) h k = λ w. absurd (k w)

nothing : Answer
nothing = record { value = truth false; segment = record { number = 0; url = []; reads = recorded [] } }

page_fits : (a : Arena) (inside : List TxName) (n : ℕ) (kind : SendKind) (v : Val) (env : List Val) (fs : List Frame) (later : List Answer) (s : State)
    → IsSend (node_at a n) → Works a fs n env → FitsStep a (stepped env fs (after (sent inside kind v later s) (λ w. gives w env fs)))
page_fits a inside n kind v env fs [] s is w = λ waits. record { node = n; sends = is; works = w }
page_fits a inside n kind v env fs (x ∷ later) s is w = (n, w)

frame_fits : (a : Arena) (f : Frame) (v : Val) (env : List Val) (fs : List Frame) (s : State) → IsKind f (node_at a (node_of f)) → Works a fs (node_of f) env
    → IsPlain f ⊎ ((n : ℕ) × ((kind : SendKind) × (f ≡ in_page n kind))) → FitsStep a (stepped env fs (taken a f v env fs s))
frame_fits a f v env fs s kind w (inl plain) =
    stepped_fits a env fs (taken a f v env fs s) (frame_suits a f v env fs s kind w)
    (plain_by nothing (taken a f v env fs s) (taken a f v env fs (more nothing s)) (taken_any (λ inside A r. Grown nothing A r) (λ inside A r. Grown nothing A r) (law nothing) a f plain v env fs s))
frame_fits a f v env fs s kind w (inr is) = by_page f kind w is.1.1
  where
    by_page : (g : Frame) → IsKind g (node_at a (node_of g)) → Works a fs (node_of g) env → g ≡ in_page is.0 is.1.0 → FitsStep a (stepped env fs (taken a g v env fs s))
    by_page (in_page n sent) k w e = page_fits a (inside_of fs) n sent v env fs s.later s (is_page n sent (node_at a n) k) w
    by_page (in_binding n done) k w e = absurd (cc)
    by_page (in_operand n done) k w e = absurd (cc)
    by_page (in_call n done) k w e = absurd (cc)
    by_page (in_task n j outer) k w e = absurd (cc)
    by_page (in_body n bound) k w e = absurd (cc)
    by_page (in_seq n j) k w e = absurd (cc)
    by_page (in_and n j) k w e = absurd (cc)
    by_page (in_or n j) k w e = absurd (cc)
    by_page (in_if n j) k w e = absurd (cc)
    by_page (in_count n) k w e = absurd (cc)
    by_page (in_store n) k w e = absurd (cc)
    by_page (in_turn n times done) k w e = absurd (cc)
    by_page (in_isolate n name) k w e = absurd (cc)
    by_page (in_finish n) k w e = absurd (cc)
    by_page (in_back n) k w e = absurd (cc)

pub step_fits : (a : Arena) (c : Control) (env : List Val) (fs : List Frame) (s : State) → FitsAt a c env fs → FitsStep a (step_at a c env fs s)
step_fits a (visit n) env fs s w =
    stepped_fits a env fs (visited a n (node_at a n) env fs s) (node_suits a n (node_at a n) refl env fs s w)
    (plain_by nothing (visited a n (node_at a n) env fs s) (visited a n (node_at a n) env fs (more nothing s)) (visited_paid (λ inside A r. Grown nothing A r) (λ inside A r. Grown nothing A r) (law nothing) a n (node_at a n) env fs s))
step_fits a (value v) env [] s w =
    stepped_fits a env [] (given (halt [] ends v) env [] s) tt
    (plain_by nothing (given (halt [] ends v) env [] s) (given (halt [] ends v) env [] (more nothing s)) (any_given (λ inside A r. Grown nothing A r) (λ inside A r. Grown nothing A r) (law nothing) [] (halt [] ends v) env [] ((law nothing).ends [] v) s))
step_fits a (value v) env (f ∷ fs) s w =
    let outer = w.1.1.1.0 in
    subst (λ (z : List Val). FitsStep a (stepped z fs (taken a f v z fs s))) (sym (cut_outer f outer env w.1.1.1.1.0)) (frame_fits a f v outer fs s w.1.0 w.1.1.1.1.1 (plain_or_page f))

on_fits : (a : Arena) (f : Machine → Step) (x : Step) → ((m : Machine) → FitsAt a m.point.control m.point.env m.point.frames → FitsStep a (f m)) → FitsStep a x → FitsStep a (then f x)
on_fits a f (goes m) h w = h m w
on_fits a f (stopped o names d s) h w = w

steps_fit : (a : Arena) (k : ℕ) (m : Machine) → FitsAt a m.point.control m.point.env m.point.frames → FitsStep a (steps a k m)
steps_fit a zero m w = w
steps_fit a (suc k) m w = on_fits a (steps a k) (step a m) (steps_fit a k) (step_fits a m.point.control m.point.env m.point.frames m.state w)

by_stop : (a : Arena) (x : Step) (o : Outcome) (names : List TxName) (d : Suspended) (s : State) → FitsStep a x → x ≡ stopped o names d s → Waits o → Fits a d
by_stop a (goes m) o names d s h e w = absurd (cc)
by_stop a (stopped p ms b t) o names d s h e w =
    let same : p ≡ o = cc in
    let there : b ≡ d = cc in
    subst (λ (k : Suspended). Fits a k) there (h (rw same w))

pub each_fits : EachStateFits
each_fits a t d is =
    let s = is.stops in
    subst (λ (k : Suspended). Fits a k) is.is (by_stop a (steps a s.count (started a t)) s.outcome s.entered s.kept s.state (steps_fit a s.count (started a t) (refl, refl)) s.are is.waits)

-- ## A frame that fits is of a node that is there

no_literal : (f : Frame) (v : Value) → IsKind f (node.Lit v) → ⊥
no_literal f v h = grind (arith, h)

pub there : (xs : List Node) (n : ℕ) (x : Node) → slice_get xs n ≡ Some x → n < length xs
there [] n x e = absurd (cc)
there (y ∷ xs) zero x e = omega arith
there (y ∷ xs) (suc n) x e = omega (arith, there xs n x e)

-- so a program may look its node up
pub node_is_there : (a : Arena) (f : Frame) → IsKind f (node_at a (node_of f)) → node_of f < length a.nodes
node_is_there a f h = by_option (slice_get a.nodes (node_of f)) refl h
  where
    by_option : (o : Option Node) → slice_get a.nodes (node_of f) ≡ o → IsKind f (unwrap_or o (node.Lit (Truth false))) → node_of f < length a.nodes
    by_option None e k = absurd (no_literal f (Truth false) k)
    by_option (Some x) e k = there a.nodes (node_of f) x e
