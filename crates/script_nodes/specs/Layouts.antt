-- Lengths of layouts.
use Rattle.std.proofs.Common.{◌≡◌, ℕ, ◌+◌, ◌<◌, length, refl, arith, length-append}
use Rattle.script_nodes.specs.Core.{Core, Cores, lit, var, bind, branch, repeat, prim, call, seq, and_all, or_any, send, finish, back, isolate, cell_ref, cell_shadow, inst_ref, inst_set, inst_add, no_cores, core, count, count_all}
use Rattle.script_nodes.specs.Layout.{layout, layout_all}

mutual
  -- a tree is laid out in as many nodes as it has
  pub length-layout : (n : ℕ) (c : Core) → length (layout n c) ≡ count c
  length-layout n (lit v) = refl
  length-layout n (var k) = refl
  length-layout n (bind es b) = simp length-append (omega (arith, length-layout_all (n + 1) es, length-layout (n + 1 + count_all es) b))
  length-layout n (branch t a b) =
      simp length-append (omega (arith, length-layout (n + 1) t, length-layout (n + 1 + count t) a, length-layout (n + 1 + count t + count a) b))
  length-layout n (repeat e b) = simp length-append (omega (arith, length-layout (n + 1) e, length-layout (n + 1 + count e) b))
  length-layout n (prim o es) = omega (arith, length-layout_all (n + 1) es)
  length-layout n (call k es) = omega (arith, length-layout_all (n + 1) es)
  length-layout n (seq es) = omega (arith, length-layout_all (n + 1) es)
  length-layout n (and_all es) = omega (arith, length-layout_all (n + 1) es)
  length-layout n (or_any es) = omega (arith, length-layout_all (n + 1) es)
  length-layout n (send kind b) = omega (arith, length-layout (n + 1) b)
  length-layout n (finish b) = omega (arith, length-layout (n + 1) b)
  length-layout n (back b) = omega (arith, length-layout (n + 1) b)
  length-layout n (isolate b) = omega (arith, length-layout (n + 1) b)
  length-layout n (cell_ref c) = refl
  length-layout n (cell_shadow c e) = omega (arith, length-layout (n + 1) e)
  length-layout n (inst_ref c) = refl
  length-layout n (inst_set c e) = omega (arith, length-layout (n + 1) e)
  length-layout n (inst_add c e) = omega (arith, length-layout (n + 1) e)

  -- trees are laid out in as many nodes as they have together
  pub length-layout_all : (n : ℕ) (cs : Cores) → length (layout_all n cs) ≡ count_all cs
  length-layout_all n no_cores = refl
  length-layout_all n (core c cs) = simp length-append (omega (arith, length-layout n c, length-layout_all (n + count c) cs))

-- a tree has a node
pub count_pos : (c : Core) → 0 < count c
count_pos (lit v) = omega arith
count_pos (var k) = omega arith
count_pos (bind es b) = omega arith
count_pos (branch t a b) = omega arith
count_pos (repeat e b) = omega arith
count_pos (prim o es) = omega arith
count_pos (call k es) = omega arith
count_pos (seq es) = omega arith
count_pos (and_all es) = omega arith
count_pos (or_any es) = omega arith
count_pos (send kind b) = omega arith
count_pos (finish b) = omega arith
count_pos (back b) = omega arith
count_pos (isolate b) = omega arith
count_pos (cell_ref c) = omega arith
count_pos (cell_shadow c e) = omega arith
count_pos (inst_ref c) = omega arith
count_pos (inst_set c e) = omega arith
count_pos (inst_add c e) = omega arith
