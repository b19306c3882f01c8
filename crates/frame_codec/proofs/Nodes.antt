-- Nodes of the program, and the variable of a turn.
use Rattle.std.proofs.Common.{◌≡◌, ℕ, ◌+◌, ◌≤◌, ◌==◌, true, false, length, Option, Some, None, refl, sym, ap, ◌∙◌, arith}
use Rattle.std.specs.Prelude.{pos, negsuc, slice_get, unwrap_or}
use Rattle.std.proofs.lemmas.Bool.Decides.{nat_tests}
use Rattle.std.proofs.lemmas.Option.{slice_get_past}
use Rattle.std.proofs.lemmas.Bool.{cond-true, cond-false}
use Rattle.script_value.specs.Val.{Val, number, truth, text, symbol, list}
use Rattle.script_value.specs.declared.value.Value.TheVariants.{Truth}
use Rattle.script_nodes.specs.declared.script.Node.{Node}
use Rattle.script_nodes.specs.declared.script.Node.TheVariants as node
use Rattle.script_nodes.specs.Arena.{Arena}
use Rattle.machine_states.specs.Machine.{node_at, first_of}
use Rattle.frame_codec.specs.Walk.{numbered}

pub node_there : (a : Arena) (n : ℕ) (x : Node) → slice_get a.nodes n ≡ Some x → x ≡ node_at a n
node_there a n x e = sym (ap (λ (o : Option Node). unwrap_or o (node.Lit (Truth false))) e)

pub no_node : (a : Arena) (n : ℕ) → length a.nodes ≤ n → node_at a n ≡ node.Lit (Truth false)
no_node a n h = ap (λ (o : Option Node). unwrap_or o (node.Lit (Truth false))) (slice_get_past a.nodes n h)

-- the variable is the number of the turn
pub numbered_so : (turn k : ℕ) (o : Option Val) (v : Val) → o ≡ Some v → v ≡ number (pos turn) → numbered turn k o ≡ Some (k + 1)
numbered_so turn k o v e same =
    let test : (turn == turn) ≡ true = grind (arith, nat_tests) in
    ap (λ p. numbered turn k p) (e ∙ ap (λ (w : Val). Some w) same) ∙ cond-true (turn == turn) _ _ test

another : (turn k : ℕ) (v : Val) → ¬ (v ≡ number (pos turn)) → numbered turn k (Some v) ≡ None
another turn k (number (pos m)) other =
    let differ : (m == turn) ≡ false = grind (arith, nat_tests, λ (e : m ≡ turn). other (ap (λ (i : ℕ). number (pos i)) e)) in
    cond-false (m == turn) _ _ differ
another turn k (number (negsuc m)) other = refl
another turn k (truth b) other = refl
another turn k (text t) other = refl
another turn k (symbol t) other = refl
another turn k (list vs) other = refl

-- or it is not
pub not_numbered : (turn k : ℕ) (o : Option Val) (v : Val) → o ≡ Some v → ¬ (v ≡ number (pos turn)) → numbered turn k o ≡ None
not_numbered turn k o v e other = ap (λ p. numbered turn k p) e ∙ another turn k v other

-- or there is none
pub none_numbered : (turn k : ℕ) (o : Option Val) → o ≡ None → numbered turn k o ≡ None
none_numbered turn k o e = ap (λ p. numbered turn k p) e

-- the body of a task that is there
pub task_there : (a : Arena) (t n : ℕ) → slice_get a.tasks t ≡ Some n → first_of a t ≡ n
task_there a t n e = ap (λ (o : Option ℕ). unwrap_or o 0) e
