-- The trees of a script call tasks of the script, and each body earlier tasks alone.
use Rattle.std.proofs.Common.{◌≡◌, ℕ, zero, suc, ◌+◌, ◌≤◌, Bool, List, [], ◌∷◌, ◌++◌, length, Some, slice_get, arith, length-append}
use Rattle.script_nodes.specs.declared.script.Node.{Node}
use Rattle.script_nodes.specs.Core.{Core, Cores, lit, var, bind, branch, repeat, prim, call, seq, and_all, or_any, send, finish, back, isolate, cell_ref, cell_shadow, inst_ref, inst_set, inst_add, no_cores, core}
use Rattle.script_nodes.specs.Closed.{IsClosed, AreClosed, AreBodies}
use Rattle.script_nodes.specs.Calls.{CallsBelow, AllCallBelow, AreBelow}
use Rattle.script_nodes.specs.Arena.{Arena, IsScript, tree_at, trees_at}
use Rattle.script_nodes.proofs.Scripts.{place_there, tasks_length}

module _ (w i n : ℕ) (ks : List ℕ) (few : length ks ≤ n) where
  mutual
    pub closed_below : (d : ℕ) (p : Bool) (c : Core) → IsClosed w i ks d p c → CallsBelow n c
    closed_below d p (lit v) k = tt
    closed_below d p (var x) k = tt
    closed_below d p (bind es b) k = (all_below d p es k.0, closed_below _ p b k.1)
    closed_below d p (branch t a b) k = (closed_below d p t k.0, closed_below d p a k.1, closed_below d p b k.2)
    closed_below d p (repeat e b) k = (closed_below d p e k.0, closed_below (1 + d) p b k.1)
    closed_below d p (prim o es) k = all_below d p es k.1
    closed_below d p (call j es) k = ((let z = place_there ks j _ k.1 in omega arith), all_below d _ es k.2)
    closed_below d p (seq es) k = all_below d p es k
    closed_below d p (and_all es) k = all_below d p es k
    closed_below d p (or_any es) k = all_below d p es k
    closed_below d p (send kind b) k = closed_below (1 + d) _ b k.1
    closed_below d p (finish b) k = closed_below d _ b k.1
    closed_below d p (back b) k = closed_below d _ b k.1
    closed_below d p (isolate b) k = closed_below d _ b k.1
    closed_below d p (cell_ref c) k = tt
    closed_below d p (cell_shadow c e) k = closed_below d _ e k.2
    closed_below d p (inst_ref c) k = tt
    closed_below d p (inst_set c e) k = closed_below d _ e k.2
    closed_below d p (inst_add c e) k = closed_below d _ e k.2

    all_below : (d : ℕ) (p : Bool) (cs : Cores) → AreClosed w i ks d p cs → AllCallBelow n cs
    all_below d p no_cores k = tt
    all_below d p (core c cs) k = (closed_below d p c k.0, all_below d p cs k.1)

each_below : (w i n : ℕ) (earlier ks : List ℕ) (cs : Cores) → length earlier ≤ n → AreBodies w i earlier ks cs → AreBelow n cs
each_below w i n earlier [] no_cores l h = tt
each_below w i n earlier [] (core c cs) l h = absurd h
each_below w i n earlier (k ∷ ks) no_cores l h = absurd h
each_below w i n earlier (k ∷ ks) (core c cs) l h =
    let more : length (earlier ++ k ∷ []) ≡ length earlier + 1 = length-append earlier (k ∷ []) in
    (closed_below w i n earlier l k _ c h.0, each_below w i (suc n) (earlier ++ k ∷ []) ks cs (omega arith) h.1)

pub bodies_below : (a : Arena) → IsScript a → AreBelow 0 (trees_at a.nodes a.tasks)
bodies_below a s = each_below (length a.web) (length a.cells) 0 [] s.parameters (trees_at a.nodes a.tasks) (omega arith) s.bodies

body_from : (nodes : List Node) (ns : List ℕ) (n k m p : ℕ) → AreBelow n (trees_at nodes ns) → n + k ≡ m → slice_get ns k ≡ Some p
    → CallsBelow m (tree_at nodes p)
body_from nodes [] n k m p h e l = absurd (cc)
body_from nodes (q ∷ ns) n zero m p h e l =
    let here : n ≡ m = omega arith in
    let first : q ≡ p = cc in
    rw (← here, ← first) h.0
body_from nodes (q ∷ ns) n (suc k) m p h e l = body_from nodes ns (suc n) k m p h.1 (omega arith) l

pub body_below : (a : Arena) (k p : ℕ) → IsScript a → slice_get a.tasks k ≡ Some p → CallsBelow k (tree_at a.nodes p)
body_below a k p s h = body_from a.nodes a.tasks 0 k k p (bodies_below a s) (omega arith) h

pub expression_below : (a : Arena) → IsScript a → CallsBelow (length a.tasks) (tree_at a.nodes 0)
expression_below a s =
    let few = tasks_length a s in
    closed_below (length a.web) (length a.cells) (length a.tasks) s.parameters (omega arith) 0 _ (tree_at a.nodes 0) s.closed
