-- The tree at a number is the shape of the node there, over the trees of its parts.
use Rattle.std.proofs.Common.{◌≡◌, ℕ, zero, suc, ◌+◌, ◌<◌, ◌≤◌, List, [], ◌∷◌, ◌++◌, map, length, Option, Some, None, slice_get, refl, arith}
use Rattle.std.specs.List.{AllByRecursion}
use Rattle.script_nodes.specs.declared.script.Node.{Node}
use Rattle.script_nodes.specs.declared.script.Node.TheVariants as node
use Rattle.script_nodes.specs.Core.{Core}
use Rattle.script_nodes.specs.Arena.{Arena, IsScript, IsBehind, parts, shape, shape_at, tree_within, tree_at}
use Rattle.script_nodes.proofs.Scripts.{has_nodes, parts_behind}

abbrev Same : (ℕ → Core) → (ℕ → Core) → ℕ → Type 0
Same f g p = f p ≡ g p

pub all_front : (P : ℕ → Type 0) (ps qs : List ℕ) → AllByRecursion P (ps ++ qs) → AllByRecursion P ps
all_front P [] qs h = tt
all_front P (p ∷ ps) qs h = (h.0, all_front P ps qs h.1)

pub all_last : (P : ℕ → Type 0) (ps : List ℕ) (q : ℕ) → AllByRecursion P (ps ++ q ∷ []) → P q
all_last P [] q h = h.0
all_last P (p ∷ ps) q h = all_last P ps q h.1

pub all_weaker : (P Q : ℕ → Type 0) (ps : List ℕ) → ((p : ℕ) → P p → Q p) → AllByRecursion P ps → AllByRecursion Q ps
all_weaker P Q [] f h = tt
all_weaker P Q (p ∷ ps) f h = (f p h.0, all_weaker P Q ps f h.1)

map_same : (f g : ℕ → Core) (ps : List ℕ) → AllByRecursion (Same f g) ps → map f ps ≡ map g ps
map_same f g [] h = refl
map_same f g (p ∷ ps) h = let a = map_same f g ps h.1 in let b = h.0 in cc

shape_same : (f g : ℕ → Core) (x : Node) → AllByRecursion (Same f g) (parts x) → shape f x ≡ shape g x
shape_same f g (node.Lit v) h = refl
shape_same f g (node.Var k) h = refl
shape_same f g (node.Let ps b) h =
    let a = map_same f g ps (all_front (Same f g) ps (b ∷ []) h) in
    let c : f b ≡ g b = all_last (Same f g) ps b h in
    cc
shape_same f g (node.Seq ps) h = let a = map_same f g ps h in cc
shape_same f g (node.If t a b) h = let x : f t ≡ g t = h.0 in let y : f a ≡ g a = h.1.0 in let z : f b ≡ g b = h.1.1.0 in cc
shape_same f g (node.And ps) h = let a = map_same f g ps h in cc
shape_same f g (node.Or ps) h = let a = map_same f g ps h in cc
shape_same f g (node.For n b) h = let x : f n ≡ g n = h.0 in let y : f b ≡ g b = h.1.0 in cc
shape_same f g (node.Prim o ps) h = let a = map_same f g ps h in cc
shape_same f g (node.Call k ps) h = let a = map_same f g ps h in cc
shape_same f g (node.Send kind b) h = let a : f b ≡ g b = h.0 in cc
shape_same f g (node.Finish b) h = let a : f b ≡ g b = h.0 in cc
shape_same f g (node.Back b) h = let a : f b ≡ g b = h.0 in cc
shape_same f g (node.Isolate b) h = let a : f b ≡ g b = h.0 in cc
shape_same f g (node.CellRef c) h = refl
shape_same f g (node.CellShadow c e) h = let a : f e ≡ g e = h.0 in cc
shape_same f g (node.InstRef c) h = refl
shape_same f g (node.InstSet c e) h = let a : f e ≡ g e = h.0 in cc
shape_same f g (node.InstAdd c e) h = let a : f e ≡ g e = h.0 in cc

-- at least one node, and each part after its node
record Follows (nodes : List Node) : Type 0 where
  nonempty : 0 < length nodes
  behind : (n : ℕ) (x : Node) → slice_get nodes n ≡ Some x → AllByRecursion (IsBehind n (length nodes)) (parts x)

shape_at_same : (nodes : List Node) → Follows nodes → (f g : ℕ → Core) (n : ℕ)
    → ((p : ℕ) → IsBehind n (length nodes) p → f p ≡ g p) → (o : Option Node) → slice_get nodes n ≡ o → shape_at f o ≡ shape_at g o
shape_at_same nodes s f g n h None e = refl
shape_at_same nodes s f g n h (Some x) e =
    shape_same f g x (all_weaker (IsBehind n (length nodes)) (Same f g) (parts x) h (s.behind n x e))

-- a bound that reaches the end is enough
enough : (nodes : List Node) → Follows nodes → (a b n : ℕ) → n < length nodes → length nodes ≤ a + n → length nodes ≤ b + n
    → tree_within a nodes n ≡ tree_within b nodes n
unfolding tree_within
enough nodes s zero b n h k l = absurd (omega arith)
enough nodes s (suc a) zero n h k l = absurd (omega arith)
enough nodes s (suc a) (suc b) n h k l =
    shape_at_same nodes s (tree_within a nodes) (tree_within b nodes) n
    (λ p q. enough nodes s a b p q.1 (let r = q.0 in omega arith) (let r = q.0 in omega arith)) (slice_get nodes n) refl

step : (nodes : List Node) → Follows nodes → (bound n : ℕ) (x : Node) → bound ≡ length nodes → slice_get nodes n ≡ Some x
    → tree_within bound nodes n ≡ shape (tree_at nodes) x
unfolding tree_within tree_at
step nodes s zero n x l e = absurd (let h = s.nonempty in omega arith)
step nodes s (suc bound) n x l e =
    rw e (shape_same (tree_within bound nodes) (tree_at nodes) x
    (all_weaker (IsBehind n (length nodes)) (Same (tree_within bound nodes) (tree_at nodes)) (parts x)
    (λ p q. enough nodes s bound (length nodes) p q.1 (let r = q.0 in omega arith) (omega arith)) (s.behind n x e)))

pub tree_at_node : (a : Arena) → IsScript a → (n : ℕ) (x : Node) → slice_get a.nodes n ≡ Some x
    → tree_at a.nodes n ≡ shape (tree_at a.nodes) x
unfolding tree_at
tree_at_node a s n x e = step a.nodes (record { nonempty = has_nodes a s; behind = parts_behind a s }) (length a.nodes) n x refl e
