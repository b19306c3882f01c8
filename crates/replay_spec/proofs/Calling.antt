-- A task that is called comes to what its body does over all tasks, since it calls earlier ones alone.
use Rattle.std.proofs.Common.{◌≡◌, ℕ, zero, suc, ◌+◌, ◌==◌, ◌<◌, Bool, true, false, List, [], ◌∷◌, ◌++◌, Some, slice_get, refl, sym, ap, ◌∙◌, arith}
use Rattle.std.proofs.lemmas.Bool.Decides.{nat_tests}
use Rattle.script_value.specs.Val.{Val, truth}
use Rattle.script_value.specs.declared.outcome.TxName.{TxName}
use Rattle.script_nodes.specs.PrimSpec.Table.{is_false, value_of}
use Rattle.script_nodes.specs.Core.{Core, Cores, lit, var, bind, branch, repeat, prim, call, seq, and_all, or_any, send, finish, back, isolate, cell_ref, cell_shadow, inst_ref, inst_set, inst_add, no_cores, core}
use Rattle.script_nodes.specs.declared.script.Node.{Node}
use Rattle.script_nodes.specs.Calls.{CallsBelow, AllCallBelow, AreBelow}
use Rattle.script_nodes.specs.Arena.{Arena, IsScript, tree_at, trees_at}
use Rattle.script_nodes.proofs.Below.{bodies_below}
use Rattle.replay_spec.specs.Tape.{finishes, ends, Run, ◌>>=◌, give, answer, choose, charge, url, halt, send_page, enter, leave, shadow, set_cell, add_cell, as_number}
use Rattle.replay_spec.specs.Eval.{for_each, is_any, is_not_false, Calls, with_task, calls_from, no_calls, calls_of, calls_in, eval, eval_into, eval_while}

-- over calls that are the same below n, a tree that calls below n is the same
module _ (f g : Calls) (n : ℕ) (agree : (k : ℕ) → k < n → f k ≡ g k) where
  mutual
    pub same : (c : Core) → CallsBelow n c → eval f c ≡ eval g c
    same (lit v) h = refl
    same (var k) h = refl
    same (bind es b) h = λ i env inside. charge inside 1 >>= λ _. same_into [] es h.0 i env inside >>= λ vs. same b h.1 i (env ++ vs) inside
    same (branch t a b) h = λ i env inside. charge inside 1 >>= λ _. same t h.0 i env inside >>= λ v. choose (is_false v) (same b h.2 i env inside) (same a h.1 i env inside)
    same (repeat e b) h = λ i env inside. charge inside 1 >>= λ _. same e h.0 i env inside >>= λ v. for_each inside (as_number v) (λ z. same b h.1 i z inside) env
    same (prim o es) h = λ i env inside. charge inside 1 >>= λ _. same_into [] es h i env inside >>= λ vs. answer inside (value_of o vs)
    same (call k es) h = λ i env inside. charge inside 1 >>= λ _. same_into [] es h.1 i env inside >>= λ vs. agree k h.0 i vs inside
    same (seq es) h = λ i env inside. charge inside 1 >>= λ _. same_while is_any (truth false) es h i env inside
    same (and_all es) h = λ i env inside. charge inside 1 >>= λ _. same_while is_not_false (truth true) es h i env inside
    same (or_any es) h = λ i env inside. charge inside 1 >>= λ _. same_while is_false (truth false) es h i env inside
    same (send kind b) h = λ i env inside. charge inside 1 >>= λ _. url >>= λ u. same b h i (env ++ u ∷ []) inside >>= λ page. send_page inside kind page
    same (finish b) h = λ i env inside. charge inside 1 >>= λ _. same b h i env inside >>= λ page. halt inside finishes page
    same (back b) h = λ i env inside. charge inside 1 >>= λ _. same b h i env inside >>= λ page. halt inside ends page
    same (isolate b) h = λ i env inside. enter inside >>= λ name. same b h i env (inside ++ name ∷ []) >>= λ v. leave name v
    same (cell_ref c) h = refl
    same (cell_shadow c e) h = λ i env inside. charge inside 1 >>= λ _. same e h i env inside >>= λ v. shadow c v
    same (inst_ref c) h = refl
    same (inst_set c e) h = λ i env inside. charge inside 1 >>= λ _. same e h i env inside >>= λ v. set_cell c v
    same (inst_add c e) h = λ i env inside. charge inside 1 >>= λ _. same e h i env inside >>= λ v. add_cell inside c v

    same_into : (done : List Val) (cs : Cores) → AllCallBelow n cs → eval_into f done cs ≡ eval_into g done cs
    same_into done no_cores h = refl
    same_into done (core c cs) h = λ i env inside. same c h.0 i env inside >>= λ v. same_into (done ++ v ∷ []) cs h.1 i env inside

    same_while : (goes_on : Val → Bool) (v : Val) (cs : Cores) → AllCallBelow n cs → eval_while f goes_on v cs ≡ eval_while g goes_on v cs
    same_while goes_on v no_cores h = refl
    same_while goes_on v (core c cs) h = λ i env inside. same c h.0 i env inside >>= λ w. choose (goes_on w) (same_while goes_on w cs h.1 i env inside) (give w)

abbrev Body : Type 0
Body = List Val → List TxName → Run Val

chosen : (b : Bool) (x y : Body) → b ≡ true → ◌≡◌ {A = Body} (λ vs inside. choose b (x vs inside) (y vs inside)) x
chosen b x y e = rw e refl

passed : (b : Bool) (x y : Body) → b ≡ false → ◌≡◌ {A = Body} (λ vs inside. choose b (x vs inside) (y vs inside)) y
passed b x y e = rw e refl

is_itself : (n : ℕ) → (n == n) ≡ true
is_itself n = grind (arith, nat_tests)

is_other : (k n : ℕ) → k < n → (k == n) ≡ false
is_other k n h = grind (arith, nat_tests)

-- later tasks leave the earlier ones
earlier_stay : (calls : Calls) (n : ℕ) (cs : Cores) (k : ℕ) → k < n → calls_from calls n cs k ≡ calls k
earlier_stay calls n no_cores k h = refl
earlier_stay calls n (core c cs) k h =
    earlier_stay (with_task n (eval calls c) calls) (suc n) cs k (omega arith) ∙ passed (k == n) (eval calls c) (calls k) (is_other k n h)

-- the body of a task
abbrev pub IsTask : Cores → ℕ → Core → Type 0
IsTask no_cores k b = ⊥
IsTask (core c cs) zero b = c ≡ b
IsTask (core c cs) (suc k) b = IsTask cs k b

called_from : (calls : Calls) (n : ℕ) (cs : Cores) → AreBelow n cs → (k m : ℕ) (b : Core) → n + k ≡ m → IsTask cs k b → calls_from calls n cs m ≡ eval (calls_from calls n cs) b
called_from calls n no_cores h k m b e is = absurd is
called_from calls n (core c cs) h zero m b e is =
    let all = calls_from calls n (core c cs) in
    let here : m ≡ n = omega arith in
    rw (here, ← is) (earlier_stay (with_task n (eval calls c) calls) (suc n) cs n (omega arith) ∙ (chosen (n == n) (eval calls c) (calls n) (is_itself n)
    ∙ same calls all n (λ k l. sym (earlier_stay calls n (core c cs) k l)) c h.0))
called_from calls n (core c cs) h (suc k) m b e is = called_from (with_task n (eval calls c) calls) (suc n) cs h.1 k m b (omega arith) is

task_called : (cs : Cores) → AreBelow 0 cs → (k : ℕ) (b : Core) → IsTask cs k b → calls_of cs k ≡ eval (calls_of cs) b
task_called cs h k b is = called_from no_calls 0 cs h k k b (omega arith) is

-- the body of a task in a script of nodes
pub task_is : (nodes : List Node) (ns : List ℕ) (k p : ℕ) → slice_get ns k ≡ Some p → IsTask (trees_at nodes ns) k (tree_at nodes p)
task_is nodes [] k p h = absurd (cc)
task_is nodes (n ∷ ns) zero p h = (let e : n ≡ p = cc in ap (tree_at nodes) e)
task_is nodes (n ∷ ns) (suc k) p h = task_is nodes ns k p h

pub called : (a : Arena) (k p : ℕ) → IsScript a → slice_get a.tasks k ≡ Some p → calls_in a k ≡ eval (calls_in a) (tree_at a.nodes p)
called a k p i h = task_called (trees_at a.nodes a.tasks) (bodies_below a i) k (tree_at a.nodes p) (task_is a.nodes a.tasks k p h)
