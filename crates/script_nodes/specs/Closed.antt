-- Trees that are closed: each variable has a place, each operation and each task its operands, each cell is there, and a page body
-- sends nothing, writes nothing and calls nothing.
use Rattle.std.specs.Prelude.{◌≡◌, ℕ, suc, ◌+◌, ◌<◌, Bool, true, false, IsTrue, ⊤, List, [], ◌∷◌, ◌++◌, Some, slice_get}
use Rattle.prim_spec.specs.Table.{takes}
use Rattle.script_nodes.specs.Core.{Core, Cores, lit, var, bind, branch, repeat, prim, seq, and_all, or_any, call, send, finish, back, isolate, cell_ref, cell_shadow, inst_ref, inst_set, inst_add, no_cores, core}

-- how many trees these are
abbrev pub cores_length : Cores → ℕ
cores_length no_cores = 0
cores_length (core c cs) = suc (cores_length cs)

-- a tree with so many web cells and instance cells, with tasks of so many parameters, within so many variables, in a page body or not
abbrev mutual
  pub IsClosed : (web cells : ℕ) → (tasks : List ℕ) → (scope : ℕ) → (in_page : Bool) → Core → Type 0
  IsClosed web cells tasks scope in_page (lit v) = ⊤
  IsClosed web cells tasks scope in_page (var k) = k < scope
  IsClosed web cells tasks scope in_page (bind es b) = AreClosed web cells tasks scope in_page es × IsClosed web cells tasks (cores_length es + scope) in_page b
  IsClosed web cells tasks scope in_page (branch t a b) =
      IsClosed web cells tasks scope in_page t × IsClosed web cells tasks scope in_page a × IsClosed web cells tasks scope in_page b
  IsClosed web cells tasks scope in_page (repeat n b) = IsClosed web cells tasks scope in_page n × IsClosed web cells tasks (1 + scope) in_page b
  IsClosed web cells tasks scope in_page (prim o es) = IsTrue (takes o (cores_length es)) × AreClosed web cells tasks scope in_page es
  IsClosed web cells tasks scope in_page (call k es) = (in_page ≡ false) × (slice_get tasks k ≡ Some (cores_length es)) × AreClosed web cells tasks scope false es
  IsClosed web cells tasks scope in_page (seq es) = AreClosed web cells tasks scope in_page es
  IsClosed web cells tasks scope in_page (and_all es) = AreClosed web cells tasks scope in_page es
  IsClosed web cells tasks scope in_page (or_any es) = AreClosed web cells tasks scope in_page es
  IsClosed web cells tasks scope in_page (send kind b) = (in_page ≡ false) × IsClosed web cells tasks (1 + scope) true b
  IsClosed web cells tasks scope in_page (finish b) = (in_page ≡ false) × IsClosed web cells tasks scope true b
  IsClosed web cells tasks scope in_page (back b) = (in_page ≡ false) × IsClosed web cells tasks scope true b
  IsClosed web cells tasks scope in_page (isolate b) = (in_page ≡ false) × IsClosed web cells tasks scope false b
  IsClosed web cells tasks scope in_page (cell_ref c) = c < web
  IsClosed web cells tasks scope in_page (cell_shadow c e) = (in_page ≡ false) × (c < web) × IsClosed web cells tasks scope false e
  IsClosed web cells tasks scope in_page (inst_ref c) = c < cells
  IsClosed web cells tasks scope in_page (inst_set c e) = (in_page ≡ false) × (c < cells) × IsClosed web cells tasks scope false e
  IsClosed web cells tasks scope in_page (inst_add c e) = (in_page ≡ false) × (c < cells) × IsClosed web cells tasks scope false e

  -- each of these trees is closed within so many cells, tasks and variables
  pub AreClosed : (web cells : ℕ) → (tasks : List ℕ) → (scope : ℕ) → (in_page : Bool) → Cores → Type 0
  AreClosed web cells tasks scope in_page no_cores = ⊤
  AreClosed web cells tasks scope in_page (core c cs) = IsClosed web cells tasks scope in_page c × AreClosed web cells tasks scope in_page cs

-- the bodies of tasks of so many parameters, after those of the earlier ones: each calls earlier tasks alone, and has its parameters
-- alone as variables
abbrev pub AreBodies : (web cells : ℕ) → (earlier tasks : List ℕ) → Cores → Type 0
AreBodies web cells earlier [] no_cores = ⊤
AreBodies web cells earlier (k ∷ ks) (core c cs) = IsClosed web cells earlier k false c × AreBodies web cells (earlier ++ k ∷ []) ks cs
AreBodies web cells earlier [] (core c cs) = ⊥
AreBodies web cells earlier (k ∷ ks) no_cores = ⊥
