-- The core language as a tree.
use Rattle.std.specs.Prelude.{ℕ, suc, ◌+◌, ◌<◌, max, List, [], ◌∷◌, ⊤}
use Rattle.script_value.specs.Val.{Val}
use Rattle.script_value.specs.declared.outcome.Op.{Op}
use Rattle.script_nodes.specs.declared.script.SendKind.{SendKind}

mutual
  -- an expression of the core language, with the expressions in it
  pub data Core : Type 0 where
    -- a literal; a variable (the outermost is 0); bindings with a body; a choice; turns of a body; an operation
    lit : Val → Core
    var : ℕ → Core
    bind : Cores → Core → Core
    branch : Core → Core → Core → Core
    repeat : Core → Core → Core
    prim : Op → Cores → Core
    -- a task that is called, by its number, and the operands
    call : ℕ → Cores → Core
    -- parts in order: all of them; up to the first that is false; up to the first that is not
    seq and_all or_any : Cores → Core
    -- a page that is sent; a page that frees the instance; a last page; a transaction
    send : SendKind → Core → Core
    finish back isolate : Core → Core
    -- a web cell, and a shadow of it
    cell_ref : ℕ → Core
    cell_shadow : ℕ → Core → Core
    -- an instance cell read, set and added to
    inst_ref : ℕ → Core
    inst_set inst_add : ℕ → Core → Core

  -- expressions of the core language, one after the other
  pub data Cores : Type 0 where
    no_cores : Cores
    core : Core → Cores → Cores

-- these expressions as the parts of another
abbrev pub cores_of : List Core → Cores
cores_of [] = no_cores
cores_of (c ∷ cs) = core c (cores_of cs)

-- how many nodes a tree has
abbrev mutual
  pub count : Core → ℕ
  count (lit v) = 1
  count (var k) = 1
  count (bind es b) = suc (count_all es + count b)
  count (branch t a b) = suc (count t + count a + count b)
  count (repeat n b) = suc (count n + count b)
  count (prim o es) = suc (count_all es)
  count (call k es) = suc (count_all es)
  count (seq es) = suc (count_all es)
  count (and_all es) = suc (count_all es)
  count (or_any es) = suc (count_all es)
  count (send kind b) = suc (count b)
  count (finish b) = suc (count b)
  count (back b) = suc (count b)
  count (isolate b) = suc (count b)
  count (cell_ref c) = 1
  count (cell_shadow c e) = suc (count e)
  count (inst_ref c) = 1
  count (inst_set c e) = suc (count e)
  count (inst_add c e) = suc (count e)

  -- how many nodes all of these trees have
  pub count_all : Cores → ℕ
  count_all no_cores = 0
  count_all (core c cs) = count c + count_all cs

-- how deep a tree nests, a node alone being 1 deep
abbrev mutual
  pub height : Core → ℕ
  height (lit v) = 1
  height (var k) = 1
  height (bind es b) = suc (max (height_all es) (height b))
  height (branch t a b) = suc (max (height t) (max (height a) (height b)))
  height (repeat n b) = suc (max (height n) (height b))
  height (prim o es) = suc (height_all es)
  height (call k es) = suc (height_all es)
  height (seq es) = suc (height_all es)
  height (and_all es) = suc (height_all es)
  height (or_any es) = suc (height_all es)
  height (send kind b) = suc (height b)
  height (finish b) = suc (height b)
  height (back b) = suc (height b)
  height (isolate b) = suc (height b)
  height (cell_ref c) = 1
  height (cell_shadow c e) = suc (height e)
  height (inst_ref c) = 1
  height (inst_set c e) = suc (height e)
  height (inst_add c e) = suc (height e)

  -- how high the highest of these trees is
  pub height_all : Cores → ℕ
  height_all no_cores = 0
  height_all (core c cs) = max (height c) (height_all cs)

-- each cell that a tree names is one of so many web cells, and of so many instance cells
abbrev mutual
  pub OnCells : (web cells : ℕ) → Core → Type 0
  OnCells web cells (lit v) = ⊤
  OnCells web cells (var k) = ⊤
  OnCells web cells (bind es b) = AllOnCells web cells es × OnCells web cells b
  OnCells web cells (branch t a b) = OnCells web cells t × OnCells web cells a × OnCells web cells b
  OnCells web cells (repeat n b) = OnCells web cells n × OnCells web cells b
  OnCells web cells (prim o es) = AllOnCells web cells es
  OnCells web cells (call k es) = AllOnCells web cells es
  OnCells web cells (seq es) = AllOnCells web cells es
  OnCells web cells (and_all es) = AllOnCells web cells es
  OnCells web cells (or_any es) = AllOnCells web cells es
  OnCells web cells (send kind b) = OnCells web cells b
  OnCells web cells (finish b) = OnCells web cells b
  OnCells web cells (back b) = OnCells web cells b
  OnCells web cells (isolate b) = OnCells web cells b
  OnCells web cells (cell_ref c) = c < web
  OnCells web cells (cell_shadow c e) = (c < web) × OnCells web cells e
  OnCells web cells (inst_ref c) = c < cells
  OnCells web cells (inst_set c e) = (c < cells) × OnCells web cells e
  OnCells web cells (inst_add c e) = (c < cells) × OnCells web cells e

  -- each of these trees reads and writes cells of a script with so many of them alone
  pub AllOnCells : (web cells : ℕ) → Cores → Type 0
  AllOnCells web cells no_cores = ⊤
  AllOnCells web cells (core c cs) = OnCells web cells c × AllOnCells web cells cs
