-- What holds of each node of a script, since its nodes are those of a closed tree in pre-order.
use Rattle.std.proofs.Common.{◌≡◌, ℕ, zero, suc, ◌+◌, ◌<◌, ◌≤◌, Bool, true, false, List, [], ◌∷◌, ◌++◌, length, take, drop, Some, slice_get, refl, sym, ap, ◌∙◌, subst, arith, length-append}
use Rattle.std.specs.Bool.{⊤}
use Rattle.std.specs.List.{AllByRecursion}
use Rattle.script_nodes.specs.declared.script.Node.{Node}
use Rattle.script_nodes.specs.Core.{Core, Cores, lit, var, bind, branch, repeat, prim, call, seq, and_all, or_any, send, finish, back, isolate, cell_ref, cell_shadow, inst_ref, inst_set, inst_add, no_cores, core, count, count_all, OnCells, AllOnCells}
use Rattle.script_nodes.specs.Layout.{layout, layout_all, starts}
use Rattle.script_nodes.specs.Setup.{Script, trees_of}
use Rattle.script_nodes.specs.Layouts.{length-layout, length-layout_all, count_pos}
use Rattle.script_nodes.specs.Readings.{StandAt, front, behind, reads, at_end, trees_at-layout}
use Rattle.script_nodes.specs.Arena.{Arena, IsScript, IsBehind, IsFull, IsOnCells, IsLaidAt, IsOnTasks, parts, tree_at, trees_at, script_of, arena_of}
use Rattle.script_nodes.specs.Closed.{IsClosed, AreClosed, AreBodies, cores_length}

drop_at : (nodes : List Node) (n : ℕ) (x : Node) → slice_get nodes n ≡ Some x → drop n nodes ≡ x ∷ drop (n + 1) nodes
drop_at [] n x e = absurd (cc)
drop_at (y ∷ nodes) zero x e = let f : y ≡ x = cc in rw f refl
drop_at (y ∷ nodes) (suc n) x e = let next : suc n + 1 ≡ suc (n + 1) = omega arith in rw next (drop_at nodes n x e)

take_standing : (nodes : List Node) (n : ℕ) (xs : List Node) → StandAt nodes n xs → take (length xs) (drop n nodes) ≡ xs
take_standing nodes n [] s = refl
take_standing nodes n (x ∷ xs) s = rw (drop_at nodes n x s.0) (ap (λ ys. x ∷ ys) (take_standing nodes (n + 1) xs s.1))

laid_at : (nodes : List Node) (n : ℕ) (c : Core) → StandAt nodes n (layout n c) → n + count c ≤ length nodes → IsLaidAt nodes n
unfolding tree_at
laid_at nodes n c s h =
    let tree : tree_at nodes n ≡ c = reads nodes (length nodes) n c s (omega arith) in
    let l = length-layout n c in
    rw tree (rw l at (take_standing nodes n (layout n c) s))

-- what holds of the node of a number
record IsNode (web cells tasks : ℕ) (nodes : List Node) (n : ℕ) (x : Node) : Type 0 where
  behind : AllByRecursion (IsBehind n (length nodes)) (parts x)
  full : IsFull x
  on_cells : IsOnCells web cells x
  on_tasks : IsOnTasks tasks x
  laid : IsLaidAt nodes n

abbrev AreNodes : (web cells tasks : ℕ) → List Node → (n : ℕ) → List Node → Type 0
AreNodes web cells tasks nodes n [] = ⊤
AreNodes web cells tasks nodes n (x ∷ xs) = IsNode web cells tasks nodes n x × AreNodes web cells tasks nodes (n + 1) xs

joined : (w i t : ℕ) (nodes : List Node) (n m : ℕ) (xs ys : List Node) → n + length xs ≡ m
    → AreNodes w i t nodes n xs → AreNodes w i t nodes m ys → AreNodes w i t nodes n (xs ++ ys)
joined w i t nodes n m [] ys e h k = let f : n ≡ m = omega arith in rw f k
joined w i t nodes n m (x ∷ xs) ys e h k = (h.0, joined w i t nodes (n + 1) m xs ys (omega arith) h.1 k)

length-starts : (n : ℕ) (cs : Cores) → length (starts n cs) ≡ cores_length cs
length-starts n no_cores = refl
length-starts n (core c cs) = omega (arith, length-starts (n + count c) cs)

starts_behind : (end k n : ℕ) (cs : Cores) → k < n → n + count_all cs ≤ end → AllByRecursion (IsBehind k end) (starts n cs)
starts_behind end k n no_cores h l = tt
starts_behind end k n (core c cs) h l = ((h, omega (arith, count_pos c)), starts_behind end k (n + count c) cs (omega arith) (omega arith))

starts_then : (end k n p : ℕ) (cs : Cores) → k < n → n + count_all cs ≤ end → k < p → p < end → AllByRecursion (IsBehind k end) (starts n cs ++ p ∷ [])
starts_then end k n p no_cores h l i j = ((i, j), tt)
starts_then end k n p (core c cs) h l i j = ((h, omega (arith, count_pos c)), starts_then end k (n + count c) p cs (omega arith) (omega arith) i j)

-- one part, after its node
one_behind : (end n : ℕ) (c : Core) → n + 1 + count c ≤ end → AllByRecursion (IsBehind n end) ((n + 1) ∷ [])
one_behind end n c h = ((omega arith, omega (arith, count_pos c)), tt)

pub place_there : (ks : List ℕ) (j m : ℕ) → slice_get ks j ≡ Some m → j < length ks
place_there [] j m e = absurd (cc)
place_there (k ∷ ks) zero m e = omega arith
place_there (k ∷ ks) (suc j) m e = omega (arith, place_there ks j m e)

-- each node of a closed tree that stands there
module _ (w i tasks : ℕ) (ks : List ℕ) (few : length ks ≤ tasks) where
  mutual
    nodes_of : (d : ℕ) (p : Bool) (nodes : List Node) (n : ℕ) (c : Core) → IsClosed w i ks d p c → n + count c ≤ length nodes → StandAt nodes n (layout n c)
        → AreNodes w i tasks nodes n (layout n c)
    nodes_of d p nodes n (lit v) k h s = (record { behind = tt; full = tt; on_cells = tt; on_tasks = tt; laid = laid_at nodes n (lit v) s h }, tt)
    nodes_of d p nodes n (var x) k h s = (record { behind = tt; full = tt; on_cells = tt; on_tasks = tt; laid = laid_at nodes n (var x) s h }, tt)
    nodes_of d p nodes n (bind es b) k h s = (
      record { behind = starts_then (length nodes) n (n + 1) (n + 1 + count_all es) es (omega arith) (omega arith) (omega arith) (omega (arith, count_pos b)); full = tt; on_cells = tt; on_tasks = tt; laid = laid_at nodes n (bind es b) s h },
      (let part : n + 1 + length (layout_all (n + 1) es) ≡ n + 1 + count_all es = omega (arith, length-layout_all (n + 1) es) in
          joined w i tasks nodes (n + 1) (n + 1 + count_all es) (layout_all (n + 1) es) (layout (n + 1 + count_all es) b) part
          (nodes_all d p nodes (n + 1) es k.0 (omega arith) (front nodes (n + 1) _ _ s.1))
          (nodes_of (cores_length es + d) p nodes (n + 1 + count_all es) b k.1 (omega arith) (behind nodes (n + 1) _ (layout_all (n + 1) es) _ part s.1))),
    )
    nodes_of d p nodes n (branch t a b) k h s = (
      record { behind = ((omega arith, omega (arith, count_pos t)), ((omega arith, omega (arith, count_pos a)), ((omega arith, omega (arith, count_pos b)), tt))); full = tt; on_cells = tt; on_tasks = tt; laid = laid_at nodes n (branch t a b) s h },
      (let one : n + 1 + length (layout (n + 1) t) ≡ n + 1 + count t = omega (arith, length-layout (n + 1) t) in
          let two : n + 1 + count t + length (layout (n + 1 + count t) a) ≡ n + 1 + count t + count a = omega (arith, length-layout (n + 1 + count t) a) in
          let others = behind nodes (n + 1) (n + 1 + count t) (layout (n + 1) t) _ one s.1 in
          joined w i tasks nodes (n + 1) (n + 1 + count t) (layout (n + 1) t) (layout (n + 1 + count t) a ++ layout (n + 1 + count t + count a) b) one
          (nodes_of d p nodes (n + 1) t k.0 (omega arith) (front nodes (n + 1) _ _ s.1))
          (joined w i tasks nodes (n + 1 + count t) (n + 1 + count t + count a) (layout (n + 1 + count t) a) (layout (n + 1 + count t + count a) b) two
          (nodes_of d p nodes (n + 1 + count t) a k.1 (omega arith) (front nodes (n + 1 + count t) _ _ others))
          (nodes_of d p nodes (n + 1 + count t + count a) b k.2 (omega arith) (behind nodes (n + 1 + count t) _ (layout (n + 1 + count t) a) _ two others)))),
    )
    nodes_of d p nodes n (repeat e b) k h s = (
      record { behind = ((omega arith, omega (arith, count_pos e)), ((omega arith, omega (arith, count_pos b)), tt)); full = tt; on_cells = tt; on_tasks = tt; laid = laid_at nodes n (repeat e b) s h },
      (let part : n + 1 + length (layout (n + 1) e) ≡ n + 1 + count e = omega (arith, length-layout (n + 1) e) in
          joined w i tasks nodes (n + 1) (n + 1 + count e) (layout (n + 1) e) (layout (n + 1 + count e) b) part
          (nodes_of d p nodes (n + 1) e k.0 (omega arith) (front nodes (n + 1) _ _ s.1))
          (nodes_of (1 + d) p nodes (n + 1 + count e) b k.1 (omega arith) (behind nodes (n + 1) _ (layout (n + 1) e) _ part s.1))),
    )
    nodes_of d p nodes n (prim o es) k h s = (
      record { behind = starts_behind (length nodes) n (n + 1) es (omega arith) (omega arith); full = (let l = length-starts (n + 1) es in rw l k.0); on_cells = tt; on_tasks = tt; laid = laid_at nodes n (prim o es) s h },
      nodes_all d p nodes (n + 1) es k.1 (omega arith) s.1,
    )
    nodes_of d p nodes n (call j es) k h s = (
      record { behind = starts_behind (length nodes) n (n + 1) es (omega arith) (omega arith); full = tt; on_cells = tt; on_tasks = (let z = place_there ks j _ k.1 in omega arith); laid = laid_at nodes n (call j es) s h },
      nodes_all d _ nodes (n + 1) es k.2 (omega arith) s.1,
    )
    nodes_of d p nodes n (seq es) k h s = (
      record { behind = starts_behind (length nodes) n (n + 1) es (omega arith) (omega arith); full = tt; on_cells = tt; on_tasks = tt; laid = laid_at nodes n (seq es) s h },
      nodes_all d p nodes (n + 1) es k (omega arith) s.1,
    )
    nodes_of d p nodes n (and_all es) k h s = (
      record { behind = starts_behind (length nodes) n (n + 1) es (omega arith) (omega arith); full = tt; on_cells = tt; on_tasks = tt; laid = laid_at nodes n (and_all es) s h },
      nodes_all d p nodes (n + 1) es k (omega arith) s.1,
    )
    nodes_of d p nodes n (or_any es) k h s = (
      record { behind = starts_behind (length nodes) n (n + 1) es (omega arith) (omega arith); full = tt; on_cells = tt; on_tasks = tt; laid = laid_at nodes n (or_any es) s h },
      nodes_all d p nodes (n + 1) es k (omega arith) s.1,
    )
    nodes_of d p nodes n (send kind b) k h s = (
      record { behind = one_behind (length nodes) n b (omega arith); full = tt; on_cells = tt; on_tasks = tt; laid = laid_at nodes n (send kind b) s h },
      nodes_of (1 + d) _ nodes (n + 1) b k.1 (omega arith) s.1,
    )
    nodes_of d p nodes n (finish b) k h s = (
      record { behind = one_behind (length nodes) n b (omega arith); full = tt; on_cells = tt; on_tasks = tt; laid = laid_at nodes n (finish b) s h },
      nodes_of d _ nodes (n + 1) b k.1 (omega arith) s.1,
    )
    nodes_of d p nodes n (back b) k h s = (
      record { behind = one_behind (length nodes) n b (omega arith); full = tt; on_cells = tt; on_tasks = tt; laid = laid_at nodes n (back b) s h },
      nodes_of d _ nodes (n + 1) b k.1 (omega arith) s.1,
    )
    nodes_of d p nodes n (isolate b) k h s = (
      record { behind = one_behind (length nodes) n b (omega arith); full = tt; on_cells = tt; on_tasks = tt; laid = laid_at nodes n (isolate b) s h },
      nodes_of d _ nodes (n + 1) b k.1 (omega arith) s.1,
    )
    nodes_of d p nodes n (cell_ref c) k h s = (record { behind = tt; full = tt; on_cells = k; on_tasks = tt; laid = laid_at nodes n (cell_ref c) s h }, tt)
    nodes_of d p nodes n (cell_shadow c e) k h s = (
      record { behind = one_behind (length nodes) n e (omega arith); full = tt; on_cells = k.1; on_tasks = tt; laid = laid_at nodes n (cell_shadow c e) s h },
      nodes_of d _ nodes (n + 1) e k.2 (omega arith) s.1,
    )
    nodes_of d p nodes n (inst_ref c) k h s = (record { behind = tt; full = tt; on_cells = k; on_tasks = tt; laid = laid_at nodes n (inst_ref c) s h }, tt)
    nodes_of d p nodes n (inst_set c e) k h s = (
      record { behind = one_behind (length nodes) n e (omega arith); full = tt; on_cells = k.1; on_tasks = tt; laid = laid_at nodes n (inst_set c e) s h },
      nodes_of d _ nodes (n + 1) e k.2 (omega arith) s.1,
    )
    nodes_of d p nodes n (inst_add c e) k h s = (
      record { behind = one_behind (length nodes) n e (omega arith); full = tt; on_cells = k.1; on_tasks = tt; laid = laid_at nodes n (inst_add c e) s h },
      nodes_of d _ nodes (n + 1) e k.2 (omega arith) s.1,
    )

    nodes_all : (d : ℕ) (p : Bool) (nodes : List Node) (n : ℕ) (cs : Cores) → AreClosed w i ks d p cs → n + count_all cs ≤ length nodes → StandAt nodes n (layout_all n cs)
        → AreNodes w i tasks nodes n (layout_all n cs)
    nodes_all d p nodes n no_cores k h s = tt
    nodes_all d p nodes n (core c cs) k h s =
        let part : n + length (layout n c) ≡ n + count c = omega (arith, length-layout n c) in
        joined w i tasks nodes n (n + count c) (layout n c) (layout_all (n + count c) cs) part
        (nodes_of d p nodes n c k.0 (omega arith) (front nodes n (layout n c) _ s))
        (nodes_all d p nodes (n + count c) cs k.1 (omega arith) (behind nodes n _ (layout n c) _ part s))

-- and of bodies
bodies_nodes : (w i t : ℕ) (earlier ks : List ℕ) (nodes : List Node) (n : ℕ) (cs : Cores) → length earlier + length ks ≤ t → AreBodies w i earlier ks cs → n + count_all cs ≤ length nodes
    → StandAt nodes n (layout_all n cs) → AreNodes w i t nodes n (layout_all n cs)
bodies_nodes w i t earlier [] nodes n no_cores l k h s = tt
bodies_nodes w i t earlier [] nodes n (core c cs) l k h s = absurd k
bodies_nodes w i t earlier (j ∷ ks) nodes n no_cores l k h s = absurd k
bodies_nodes w i t earlier (j ∷ ks) nodes n (core c cs) l k h s =
    let part : n + length (layout n c) ≡ n + count c = omega (arith, length-layout n c) in
    let more : length (earlier ++ j ∷ []) ≡ length earlier + 1 = length-append earlier (j ∷ []) in
    joined w i t nodes n (n + count c) (layout n c) (layout_all (n + count c) cs) part
    (nodes_of w i t earlier (omega arith) j false nodes n c k.0 (omega arith) (front nodes n (layout n c) _ s))
    (bodies_nodes w i t (earlier ++ j ∷ []) ks nodes (n + count c) cs (omega arith) k.1 (omega arith) (behind nodes n _ (layout n c) _ part s))

node_at : (w i t : ℕ) (nodes : List Node) (n j : ℕ) (xs : List Node) (x : Node) → AreNodes w i t nodes n xs → slice_get xs j ≡ Some x → IsNode w i t nodes (n + j) x
node_at w i t nodes n j [] x h e = absurd (cc)
node_at w i t nodes n zero (y ∷ xs) x h e = let f : y ≡ x = cc in let g : n + 0 ≡ n = omega arith in rw (← f, g) h.0
node_at w i t nodes n (suc j) (y ∷ xs) x h e = let g : n + suc j ≡ n + 1 + j = omega arith in rw g (node_at w i t nodes (n + 1) j xs x h.1 e)

-- the tasks of a script are as many as its bodies, and as many as have parameters
bodies_length : (w i : ℕ) (earlier ks : List ℕ) (cs : Cores) → AreBodies w i earlier ks cs → length ks ≡ cores_length cs
bodies_length w i earlier [] no_cores h = refl
bodies_length w i earlier [] (core c cs) h = absurd h
bodies_length w i earlier (k ∷ ks) no_cores h = absurd h
bodies_length w i earlier (k ∷ ks) (core c cs) h = omega (arith, bodies_length w i (earlier ++ k ∷ []) ks cs h.1)

pub tasks_length : (a : Arena) → (s : IsScript a) → length s.parameters ≡ length a.tasks
tasks_length a s =
    let ts = trees_at a.nodes a.tasks in
    let x : length a.tasks ≡ length (starts (count (tree_at a.nodes 0)) ts) = ap length s.placed in
    let y = length-starts (count (tree_at a.nodes 0)) ts in
    let z = bodies_length (length a.web) (length a.cells) [] s.parameters ts s.bodies in
    omega arith

nodes_length : (a : Arena) → IsScript a → length a.nodes ≡ count (tree_at a.nodes 0) + count_all (trees_at a.nodes a.tasks)
nodes_length a s = let l = length-layout_all 0 (trees_of (script_of a)) in ap length s.numbered ∙ l

-- each node of a script, which has one at least
each_node : (a : Arena) → IsScript a → (n : ℕ) (x : Node) → slice_get a.nodes n ≡ Some x → IsNode (length a.web) (length a.cells) (length a.tasks) a.nodes n x
each_node a s n x e =
    let c = tree_at a.nodes 0 in
    let ts = trees_at a.nodes a.tasks in
    let w = length a.web in
    let i = length a.cells in
    let t = length a.tasks in
    let l = nodes_length a s in
    let few = tasks_length a s in
    let stands : StandAt a.nodes 0 (layout_all 0 (core c ts)) = at_end [] (layout_all 0 (core c ts)) a.nodes s.numbered in
    let g : slice_get (layout_all 0 (core c ts)) n ≡ Some x = sym (ap (λ ns. slice_get ns n) s.numbered) ∙ e in
    let part : 0 + length (layout 0 c) ≡ 0 + count c = omega (arith, length-layout 0 c) in
    let all : AreNodes w i t a.nodes 0 (layout_all 0 (core c ts)) =
    joined w i t a.nodes 0 (0 + count c) (layout 0 c) (layout_all (0 + count c) ts) part
    (nodes_of w i t s.parameters (omega arith) 0 false a.nodes 0 c s.closed (omega arith) (front a.nodes 0 (layout 0 c) _ stands))
    (bodies_nodes w i t [] s.parameters a.nodes (0 + count c) ts (omega arith) s.bodies (omega arith) (behind a.nodes 0 _ (layout 0 c) _ part stands)) in
    let zero_first : 0 + n ≡ n = omega arith in
    rw zero_first at (node_at w i t a.nodes 0 n (layout_all 0 (core c ts)) x all g)

pub has_nodes : (a : Arena) → IsScript a → 0 < length a.nodes
has_nodes a s =
    let c = tree_at a.nodes 0 in
    let l = nodes_length a s in
    omega (arith, count_pos c)

pub parts_behind : (a : Arena) → IsScript a → (n : ℕ) (x : Node) → slice_get a.nodes n ≡ Some x → AllByRecursion (IsBehind n (length a.nodes)) (parts x)
parts_behind a s n x e = (each_node a s n x e).behind

pub node_full : (a : Arena) → IsScript a → (n : ℕ) (x : Node) → slice_get a.nodes n ≡ Some x → IsFull x
node_full a s n x e = (each_node a s n x e).full

pub node_on_cells : (a : Arena) → IsScript a → (n : ℕ) (x : Node) → slice_get a.nodes n ≡ Some x → IsOnCells (length a.web) (length a.cells) x
node_on_cells a s n x e = (each_node a s n x e).on_cells

pub node_on_tasks : (a : Arena) → IsScript a → (n : ℕ) (x : Node) → slice_get a.nodes n ≡ Some x → IsOnTasks (length a.tasks) x
node_on_tasks a s n x e = (each_node a s n x e).on_tasks

pub node_laid : (a : Arena) → IsScript a → (n : ℕ) (x : Node) → slice_get a.nodes n ≡ Some x → IsLaidAt a.nodes n
node_laid a s n x e = (each_node a s n x e).laid

-- each body of a script stands after its expression
starts_within : (end n : ℕ) (cs : Cores) → n + count_all cs ≤ end → (k p : ℕ) → slice_get (starts n cs) k ≡ Some p → p < end
starts_within end n no_cores h k p e = absurd (cc)
starts_within end n (core c cs) h zero p e = let f : n ≡ p = cc in omega (arith, count_pos c)
starts_within end n (core c cs) h (suc k) p e = starts_within end (n + count c) cs (omega arith) k p e

pub task_within : (a : Arena) → IsScript a → (k p : ℕ) → slice_get a.tasks k ≡ Some p → p < length a.nodes
task_within a s k p e =
    let l = nodes_length a s in
    starts_within (length a.nodes) (count (tree_at a.nodes 0)) (trees_at a.nodes a.tasks) (omega arith) k p (sym (ap (λ ns. slice_get ns k) s.placed) ∙ e)

-- a script's arena is that of what it means
pub arena_again : (a : Arena) → IsScript a → a ≡ arena_of (script_of a)
arena_again a s =
    ap (λ (xs : List Node). record a { nodes = xs }) s.numbered
    ∙ ap (λ (ts : List ℕ). record { nodes = layout_all 0 (trees_of (script_of a)); web = a.web; cells = a.cells; tasks = ts }) s.placed

-- closed trees make a script
pub script_laid : (s : Script) (ks : List ℕ) → IsClosed (length s.web) (length s.cells) ks 0 false s.body → AreBodies (length s.web) (length s.cells) [] ks s.tasks
    → IsScript (arena_of s) × (script_of (arena_of s) ≡ s)
script_laid s ks k b =
    let nodes = layout_all 0 (trees_of s) in
    let start : 0 + count s.body ≡ count s.body = omega arith in
    let all : trees_at nodes (starts 0 (trees_of s)) ≡ core s.body s.tasks = trees_at-layout (trees_of s) in
    let body : tree_at nodes 0 ≡ s.body = cc in
    let behind : trees_at nodes (starts (0 + count s.body) s.tasks) ≡ s.tasks = cc in
    let tasks : trees_at nodes (starts (count s.body) s.tasks) ≡ s.tasks = subst (λ (k : ℕ). trees_at nodes (starts k s.tasks) ≡ s.tasks) start behind in (
      record {
        numbered = rw (body, tasks) refl;
        placed = rw (body, tasks) refl;
        parameters = ks;
        closed = rw body k;
        bodies = rw tasks b;
      },
      ap (λ (c : Core). record { web = s.web; cells = s.cells; tasks = trees_at nodes (starts (count s.body) s.tasks); body = c }) body
          ∙ ap (λ (ts : Cores). record { web = s.web; cells = s.cells; tasks = ts; body = s.body }) tasks,
    )

-- each cell that a closed tree names is there
mutual
  closed_on_cells : (w i : ℕ) (ks : List ℕ) (d : ℕ) (p : Bool) (c : Core) → IsClosed w i ks d p c → OnCells w i c
  closed_on_cells w i ks d p (lit v) k = tt
  closed_on_cells w i ks d p (var x) k = tt
  closed_on_cells w i ks d p (bind es b) k = (all_on_cells w i ks d p es k.0, closed_on_cells w i ks (cores_length es + d) p b k.1)
  closed_on_cells w i ks d p (branch t a b) k = (closed_on_cells w i ks d p t k.0, closed_on_cells w i ks d p a k.1, closed_on_cells w i ks d p b k.2)
  closed_on_cells w i ks d p (repeat n b) k = (closed_on_cells w i ks d p n k.0, closed_on_cells w i ks (1 + d) p b k.1)
  closed_on_cells w i ks d p (prim o es) k = all_on_cells w i ks d p es k.1
  closed_on_cells w i ks d p (call j es) k = all_on_cells w i ks d false es k.2
  closed_on_cells w i ks d p (seq es) k = all_on_cells w i ks d p es k
  closed_on_cells w i ks d p (and_all es) k = all_on_cells w i ks d p es k
  closed_on_cells w i ks d p (or_any es) k = all_on_cells w i ks d p es k
  closed_on_cells w i ks d p (send kind b) k = closed_on_cells w i ks (1 + d) true b k.1
  closed_on_cells w i ks d p (finish b) k = closed_on_cells w i ks d true b k.1
  closed_on_cells w i ks d p (back b) k = closed_on_cells w i ks d true b k.1
  closed_on_cells w i ks d p (isolate b) k = closed_on_cells w i ks d false b k.1
  closed_on_cells w i ks d p (cell_ref c) k = k
  closed_on_cells w i ks d p (cell_shadow c e) k = (k.1, closed_on_cells w i ks d false e k.2)
  closed_on_cells w i ks d p (inst_ref c) k = k
  closed_on_cells w i ks d p (inst_set c e) k = (k.1, closed_on_cells w i ks d false e k.2)
  closed_on_cells w i ks d p (inst_add c e) k = (k.1, closed_on_cells w i ks d false e k.2)

  all_on_cells : (w i : ℕ) (ks : List ℕ) (d : ℕ) (p : Bool) (cs : Cores) → AreClosed w i ks d p cs → AllOnCells w i cs
  all_on_cells w i ks d p no_cores k = tt
  all_on_cells w i ks d p (core c cs) k = (closed_on_cells w i ks d p c k.0, all_on_cells w i ks d p cs k.1)

bodies_on_cells : (w i : ℕ) (earlier ks : List ℕ) (cs : Cores) → AreBodies w i earlier ks cs → AllOnCells w i cs
bodies_on_cells w i earlier [] no_cores h = tt
bodies_on_cells w i earlier [] (core c cs) h = absurd h
bodies_on_cells w i earlier (k ∷ ks) no_cores h = absurd h
bodies_on_cells w i earlier (k ∷ ks) (core c cs) h = (closed_on_cells w i earlier k false c h.0, bodies_on_cells w i (earlier ++ k ∷ []) ks cs h.1)

pub script_on_cells : (a : Arena) → IsScript a → AllOnCells (length a.web) (length a.cells) (trees_of (script_of a))
script_on_cells a s = (closed_on_cells (length a.web) (length a.cells) s.parameters 0 false (tree_at a.nodes 0) s.closed, bodies_on_cells (length a.web) (length a.cells) [] s.parameters (trees_at a.nodes a.tasks) s.bodies)
