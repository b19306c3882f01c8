-- The tree that stands at the place of its layout.
use Rattle.std.proofs.Common.{◌≡◌, ℕ, zero, suc, ◌+◌, ◌≤◌, List, [], ◌∷◌, ◌++◌, length, map, Some, slice_get, refl, sym, ap, ◌∙◌, arith, append_assoc, length-append}
use Rattle.std.specs.Bool.{⊤}
use Rattle.script_value.specs.Val.{Val, number, truth, text, symbol, list}
use Rattle.script_value.specs.Views.{meaning}
use Rattle.script_nodes.specs.declared.script.Node.{Node}
use Rattle.script_nodes.specs.Core.{Core, Cores, lit, var, bind, branch, repeat, prim, call, seq, and_all, or_any, send, finish, back, isolate, cell_ref, cell_shadow, inst_ref, inst_set, inst_add, no_cores, core, cores_of, count, count_all}
use Rattle.script_nodes.specs.Arena.{tree_within, tree_at, trees_at}
use Rattle.script_nodes.specs.Layout.{layout, layout_all, starts, value_from}
use Rattle.script_nodes.specs.Layouts.{length-layout, length-layout_all, count_pos}
use Rattle.script_value.proofs.Folds.{vals_of-items_of}

-- the first node after a front stands at the front's length
slice_get_seam : (before : List Node) (x : Node) (xs : List Node) → slice_get (before ++ x ∷ xs) (length before) ≡ Some x
slice_get_seam [] x xs = refl
slice_get_seam (y ∷ before) x xs = slice_get_seam before x xs

-- these nodes stand from place n on
abbrev pub StandAt : List Node → ℕ → List Node → Type 0
StandAt nodes n [] = ⊤
StandAt nodes n (x ∷ xs) = (slice_get nodes n ≡ Some x) × StandAt nodes (n + 1) xs

-- where nodes stand at a place, the first of them do
pub front : (nodes : List Node) (n : ℕ) (xs ys : List Node) → StandAt nodes n (xs ++ ys) → StandAt nodes n xs
front nodes n [] ys h = tt
front nodes n (x ∷ xs) ys h = (h.0, front nodes (n + 1) xs ys h.1)

-- where nodes stand at a place, the last of them stand so much further on
pub behind : (nodes : List Node) (n m : ℕ) (xs ys : List Node) → n + length xs ≡ m → StandAt nodes n (xs ++ ys) → StandAt nodes m ys
behind nodes n m [] ys e h = let f : n ≡ m = omega arith in rw (← f) h
behind nodes n m (x ∷ xs) ys e h = behind nodes (n + 1) m xs ys (omega arith) h.1

-- a value of the program that was made for a value stands for it
pub meaning-value_from : (v : Val) → meaning (value_from v) ≡ v
meaning-value_from (number n) = refl
meaning-value_from (truth b) = refl
meaning-value_from (text t) = refl
meaning-value_from (symbol s) = refl
meaning-value_from (list vs) = ap list (vals_of-items_of vs)

mutual
  unfolding tree_within

  -- the tree that stands at the place of a layout is the tree that was laid out
  pub reads : (nodes : List Node) (bound n : ℕ) (c : Core) → StandAt nodes n (layout n c) → count c ≤ bound → tree_within bound nodes n ≡ c
  reads nodes zero n c s h = absurd (omega (arith, count_pos c))
  reads nodes (suc b) n (lit v) s h = rw s.0 (ap lit (meaning-value_from v))
  reads nodes (suc b) n (var k) s h = rw s.0 refl
  reads nodes (suc b) n (bind es e) s h =
      let first = reads_all nodes b (n + 1) es (front nodes (n + 1) _ _ s.1) (omega arith) in
      let last = reads nodes b (n + 1 + count_all es) e (behind nodes (n + 1) _ (layout_all (n + 1) es) _ (omega (arith, length-layout_all (n + 1) es)) s.1) (omega arith) in
      rw s.0 (cc)
  reads nodes (suc b) n (branch t x y) s h =
      let second = behind nodes (n + 1) (n + 1 + count t) (layout (n + 1) t) _ (omega (arith, length-layout (n + 1) t)) s.1 in
      let third = behind nodes (n + 1 + count t) (n + 1 + count t + count x) (layout (n + 1 + count t) x) _ (omega (arith, length-layout (n + 1 + count t) x)) second in
      let one = reads nodes b (n + 1) t (front nodes (n + 1) _ _ s.1) (omega arith) in
      let two = reads nodes b (n + 1 + count t) x (front nodes (n + 1 + count t) _ _ second) (omega arith) in
      let three = reads nodes b (n + 1 + count t + count x) y third (omega arith) in
      rw s.0 (cc)
  reads nodes (suc b) n (repeat e x) s h =
      let first = reads nodes b (n + 1) e (front nodes (n + 1) _ _ s.1) (omega arith) in
      let last = reads nodes b (n + 1 + count e) x (behind nodes (n + 1) _ (layout (n + 1) e) _ (omega (arith, length-layout (n + 1) e)) s.1) (omega arith) in
      rw s.0 (cc)
  reads nodes (suc b) n (prim o es) s h = rw s.0 (ap (prim o) (reads_all nodes b (n + 1) es s.1 (omega arith)))
  reads nodes (suc b) n (call k es) s h = rw s.0 (ap (call k) (reads_all nodes b (n + 1) es s.1 (omega arith)))
  reads nodes (suc b) n (seq es) s h = rw s.0 (ap seq (reads_all nodes b (n + 1) es s.1 (omega arith)))
  reads nodes (suc b) n (and_all es) s h = rw s.0 (ap and_all (reads_all nodes b (n + 1) es s.1 (omega arith)))
  reads nodes (suc b) n (or_any es) s h = rw s.0 (ap or_any (reads_all nodes b (n + 1) es s.1 (omega arith)))
  reads nodes (suc b) n (send kind e) s h = let part = reads nodes b (n + 1) e s.1 (omega arith) in rw s.0 (cc)
  reads nodes (suc b) n (finish e) s h = let part = reads nodes b (n + 1) e s.1 (omega arith) in rw s.0 (cc)
  reads nodes (suc b) n (back e) s h = let part = reads nodes b (n + 1) e s.1 (omega arith) in rw s.0 (cc)
  reads nodes (suc b) n (isolate e) s h = let part = reads nodes b (n + 1) e s.1 (omega arith) in rw s.0 (cc)
  reads nodes (suc b) n (cell_ref c) s h = rw s.0 refl
  reads nodes (suc b) n (cell_shadow c e) s h = let part = reads nodes b (n + 1) e s.1 (omega arith) in rw s.0 (cc)
  reads nodes (suc b) n (inst_ref c) s h = rw s.0 refl
  reads nodes (suc b) n (inst_set c e) s h = let part = reads nodes b (n + 1) e s.1 (omega arith) in rw s.0 (cc)
  reads nodes (suc b) n (inst_add c e) s h = let part = reads nodes b (n + 1) e s.1 (omega arith) in rw s.0 (cc)

  -- the trees that stand at the places of their layouts are the trees that were laid out
  pub reads_all : (nodes : List Node) (bound n : ℕ) (cs : Cores) → StandAt nodes n (layout_all n cs) → count_all cs ≤ bound
      → cores_of (map (tree_within bound nodes) (starts n cs)) ≡ cs
  reads_all nodes b n no_cores s h = refl
  reads_all nodes b n (core c cs) s h =
      let first = reads nodes b n c (front nodes n (layout n c) _ s) (omega arith) in
      let rest = reads_all nodes b (n + count c) cs (behind nodes n _ (layout n c) _ (omega (arith, length-layout n c)) s) (omega arith) in
      cc

-- nodes that were put after others stand at the length of these
pub at_end : (before xs nodes : List Node) → nodes ≡ before ++ xs → StandAt nodes (length before) xs
at_end before [] nodes e = tt
at_end before (x ∷ xs) nodes e =
    let here : slice_get nodes (length before) ≡ Some x = rw e (slice_get_seam before x xs) in
    let again : nodes ≡ (before ++ x ∷ []) ++ xs = e ∙ sym (append_assoc before (x ∷ []) xs) in
    let next : length (before ++ x ∷ []) ≡ length before + 1 = length-append before (x ∷ []) in
    (here, rw (← next) (at_end (before ++ x ∷ []) xs nodes again))

-- a tree that was laid out is read again
pub tree_at-layout : (c : Core) → tree_at (layout 0 c) 0 ≡ c
unfolding tree_at
tree_at-layout c = reads (layout 0 c) (length (layout 0 c)) 0 c (at_end [] (layout 0 c) (layout 0 c) refl) (omega (arith, length-layout 0 c))

-- trees that were laid out one after the other are read again
pub trees_at-layout : (cs : Cores) → trees_at (layout_all 0 cs) (starts 0 cs) ≡ cs
unfolding tree_at
trees_at-layout cs = reads_all (layout_all 0 cs) (length (layout_all 0 cs)) 0 cs (at_end [] (layout_all 0 cs) (layout_all 0 cs) refl) (omega (arith, length-layout_all 0 cs))
