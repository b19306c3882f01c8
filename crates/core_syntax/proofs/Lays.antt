-- Nodes that are put after each other, a part at a time.
use Rattle.std.proofs.Common.{◌≡◌, ℕ, zero, suc, ◌+◌, ◌-◌, ◌<◌, ◌≤◌, max, List, [], ◌∷◌, ◌++◌, length, take, get_or, Result, Err, refl, sym, ap, ◌∙◌, arith, append_assoc, append-nil}
use Rattle.std.specs.Prelude.{slice_set}
use Rattle.script_value.specs.Views.{meaning}
use Rattle.script_value.specs.declared.value.Value.{Value}
use Rattle.script_value.specs.declared.value.Value.TheVariants as value
use Rattle.script_value.proofs.Folds.{items_of-vals_of}
use Rattle.core_syntax.specs.declared.nodes.LayFault.{LayFault}
use Rattle.core_syntax.specs.declared.nodes.LayFault.TheVariants.{Memory, TooMany}
use Rattle.script_nodes.specs.declared.script.Node.{Node}
use Rattle.script_nodes.specs.declared.script.Node.TheVariants as node
use Rattle.script_nodes.specs.Core.{Core, Cores, bind, branch, seq, no_cores, cores_of, count, count_all, height, height_all}
use Rattle.script_nodes.specs.Layout.{layout, layout_all, starts, value_from}
use Rattle.core_syntax.specs.Laid.{Lacks, Stands, StandAll, StandScript, Lays, LaysAll, LaysGroup}
use Rattle.core_syntax.specs.declared.tree.Group.{Group}
use Rattle.core_syntax.specs.declared.tree.Group.TheVariants as group
use Rattle.core_syntax.specs.declared.tree.Single.{Single}
use Rattle.core_syntax.specs.declared.tree.Single.TheVariants as single
use Rattle.core_syntax.specs.declared.heads.LastPage.TheVariants.{Finish, Back}
use Rattle.core_syntax.specs.declared.heads.Store.TheVariants.{Shadow, Set, Add}
use Rattle.core_syntax.specs.Groups.{group_node, single_node}
use Rattle.core_syntax.specs.Trees.{over_part, over_parts}

pub value_from-meaning : (v : Value) → value_from (meaning v) ≡ v
value_from-meaning (value.Int n) = refl
value_from-meaning (value.Truth n) = refl
value_from-meaning (value.Text n) = refl
value_from-meaning (value.Symbol n) = refl
value_from-meaning (value.List vs) = ap value.List (items_of-vals_of vs)

set_seam : (old : List Node) (x y : Node) (more : List Node) → slice_set (old ++ x ∷ more) (length old) y ≡ old ++ y ∷ more
set_seam [] x y more = refl
set_seam (z ∷ old) x y more = ap (λ r. z ∷ r) (set_seam old x y more)

-- the first node is written
pub set_head : {s0 s s' : List Node} {left n m h : ℕ} {x : Node} {xs : List Node} (y : Node)
    → Stands s0 s left n (x ∷ xs) m h → s' ≡ slice_set s n y → length s' ≡ length s → Stands s0 s' left n (y ∷ xs) m h
set_head {s0} {s} {s'} {left} {n} {m} {h} {x} {xs} y a w l =
    record { first = a.first; behind = w ∙ (rw (a.behind, a.first) (set_seam s0 x y xs)); grown = l ∙ a.grown; room = a.room; low = a.low }

-- the first part after its node
pub first_part : {s0 s1 s2 : List Node} {left n k : ℕ} {x : Node} (c : Core)
    → Stands s0 s1 left n (x ∷ []) 1 1 → Stands s1 s2 (left - 1) k (layout (length s1) c) (count c) (height c)
    → Stands s0 s2 left n (x ∷ layout (length s0 + 1) c) (suc (count c)) (suc (height c))
first_part {s0} {s1} {s2} {left} {n} {k} {x} c a b =
    record {
      first = a.first;
      behind = b.behind ∙ (rw (a.grown, a.behind) (append_assoc s0 (x ∷ []) (layout (length s0 + 1) c)));
      grown = (let p = a.grown in let q = b.grown in omega arith);
      room = (let p = a.grown in let q = b.room in omega arith);
      low = (let p = a.low in let q = b.low in omega arith);
    }

-- one more part after others
pub then_part : {s0 s3 s4 : List Node} {left n k m h : ℕ} {y : Node} {xs : List Node} (b : Core)
    → Stands s0 s3 left n (y ∷ xs) (suc m) (suc h) → Stands s3 s4 (left - 1) k (layout (length s3) b) (count b) (height b)
    → Stands s0 s4 left n (y ∷ (xs ++ layout (length s0 + 1 + m) b)) (suc (m + count b)) (suc (max h (height b)))
then_part {s0} {s3} {s4} {left} {n} {k} {m} {h} {y} {xs} b a p =
    let here : length s3 ≡ length s0 + 1 + m = (let q = a.grown in omega arith) in
    record {
      first = a.first;
      behind = p.behind ∙ (rw (here, a.behind) (append_assoc s0 (y ∷ xs) (layout (length s0 + 1 + m) b)));
      grown = (let q = a.grown in let r = p.grown in omega arith);
      room = (let q = a.grown in let r = p.room in omega arith);
      low = (let q = a.low in let r = p.low in omega arith);
    }

room_behind : (old now more : ℕ) → now ≡ old + 1 → old + 1 ≤ 16384 → (0 < more → now + more ≤ 16384) → old + suc more ≤ 16384
room_behind old now zero e l h = omega arith
room_behind old now (suc more) e l h = let r = h (omega arith) in omega arith

-- parts in a list, after their node
parts_behind : {s0 s1 s2 : List Node} {left n : ℕ} {ns : List ℕ} {x : Node} {cs : Cores}
    → Stands s0 s1 left n (x ∷ []) 1 1 → StandAll s1 s2 (left - 1) ns cs
    → Stands s0 s2 left n (x ∷ layout_all (length s0 + 1) cs) (suc (count_all cs)) (suc (height_all cs))
parts_behind {s0} {s1} {s2} {left} {n} {ns} {x} {cs} a b =
    record {
      first = a.first;
      behind = b.behind ∙ (rw (a.grown, a.behind) (append_assoc s0 (x ∷ []) (layout_all (length s0 + 1) cs)));
      grown = (let p = a.grown in let q = b.grown in omega arith);
      room = room_behind (length s0) (length s1) (count_all cs) a.grown a.room b.room;
      low = (let p = a.low in let q = b.low in omega arith);
    }

-- a node with its parts' numbers in a list
pub group_of : {s0 s1 s2 s3 : List Node} {left n : ℕ} {ns : List ℕ} {x : Node} {cs : Cores} (f : List ℕ → Node)
    → Stands s0 s1 left n (x ∷ []) 1 1 → StandAll s1 s2 (left - 1) ns cs → s3 ≡ slice_set s2 n (f ns) → length s3 ≡ length s2
    → Stands s0 s3 left n (f (starts (length s0 + 1) cs) ∷ layout_all (length s0 + 1) cs) (suc (count_all cs)) (suc (height_all cs))
group_of {s0} {s1} {s2} {s3} {left} {n} {ns} {x} {cs} f a b w l =
    let numbers : ns ≡ starts (length s0 + 1) cs = b.first ∙ ap (λ k. starts k cs) a.grown in
    set_head (f (starts (length s0 + 1) cs)) (parts_behind a b) (w ∙ ap (λ r. slice_set s2 n (f r)) numbers) l

-- a node over parts in a row is its tree's
pub group_laid : (g : Group) (es : List Core) (r : Result ℕ LayFault) (old new : List Node) (left : ℕ)
    → LaysGroup r old new left (group_node g) (cores_of es) → Lays r old new left (over_parts g es)
group_laid group.Seq es r old new left h = h
group_laid group.And es r old new left h = h
group_laid group.Or es r old new left h = h
group_laid (group.Prim o) es r old new left h = h
group_laid (group.Call k) es r old new left h = h

-- a node over one part is its tree's
pub single_laid : (s : Single) (b : Core) (old new : List Node) (left n : ℕ)
    → Stands old new left n (single_node s (length old + 1) ∷ layout (length old + 1) b) (suc (count b)) (suc (height b))
    → Stands old new left n (layout (length old) (over_part s b)) (count (over_part s b)) (height (over_part s b))
single_laid (single.Send kind) b old new left n h = h
single_laid (single.Last Finish) b old new left n h = h
single_laid (single.Last Back) b old new left n h = h
single_laid single.Isolate b old new left n h = h
single_laid (single.Store Shadow c) b old new left n h = h
single_laid (single.Store Set c) b old new left n h = h
single_laid (single.Store Add c) b old new left n h = h

-- bindings and a body
pub let_of : {s0 s1 s2 s3 s4 : List Node} {left n m k : ℕ} {ns : List ℕ} {x : Node} {es : Cores} (b : Core)
    → Stands s0 s1 left n (x ∷ []) 1 1 → StandAll s1 s2 (left - 1) ns es → m ≡ length s2 → s3 ≡ slice_set s2 n (node.Let ns m) → length s3 ≡ length s2
    → Stands s3 s4 (left - 1) k (layout (length s3) b) (count b) (height b)
    → Stands s0 s4 left n (layout (length s0) (bind es b)) (count (bind es b)) (height (bind es b))
let_of {s0} {s1} {s2} {s3} {s4} {left} {n} {m} {k} {ns} {x} {es} b a p e w l q =
    let here : m ≡ length s0 + 1 + count_all es = (let r = p.grown in let s = a.grown in omega arith) in
    then_part b (group_of (λ r. node.Let r (length s0 + 1 + count_all es)) a p (w ∙ ap (λ r. slice_set s2 n (node.Let ns r)) here) l) q

-- a node with two parts
pub two_parts : {s0 s1 s2 s3 s4 : List Node} {left n m k j : ℕ} {x : Node} (c b : Core) (f : ℕ → ℕ → Node)
    → Stands s0 s1 left n (x ∷ []) 1 1 → Stands s1 s2 (left - 1) k (layout (length s1) c) (count c) (height c)
    → m ≡ length s2 → s3 ≡ slice_set s2 n (f k m) → length s3 ≡ length s2 → Stands s3 s4 (left - 1) j (layout (length s3) b) (count b) (height b)
    → Stands s0 s4 left n (f (length s0 + 1) (length s0 + 1 + count c) ∷ (layout (length s0 + 1) c ++ layout (length s0 + 1 + count c) b)) (suc (count c + count b)) (suc (max (height c) (height b)))
two_parts {s0} {s1} {s2} {s3} {s4} {left} {n} {m} {k} {j} {x} c b f a p e w l q =
    let first : k ≡ length s0 + 1 = p.first ∙ a.grown in
    let second : m ≡ length s0 + 1 + count c = (let r = p.grown in let s = a.grown in omega arith) in
    then_part b (set_head (f (length s0 + 1) (length s0 + 1 + count c)) (first_part c a p)
    (w ∙ (ap (λ r. slice_set s2 n (f r m)) first ∙ ap (λ r. slice_set s2 n (f (length s0 + 1) r)) second)) l) q

-- one binding, and what stands within it
pub nest_of : {s0 s1 s2 s3 s4 : List Node} {left n m k j : ℕ} {x : Node} (e b : Core)
    → Stands s0 s1 left n (x ∷ []) 1 1 → Stands s1 s2 (left - 1) k (layout (length s1) e) (count e) (height e)
    → m ≡ length s2 → s3 ≡ slice_set s2 n (node.Let (k ∷ []) m) → length s3 ≡ length s2 → Stands s3 s4 (left - 1) j (layout (length s3) b) (count b) (height b)
    → Stands s0 s4 left n (layout (length s0) (bind (cores_of (e ∷ [])) b)) (count (bind (cores_of (e ∷ [])) b)) (height (bind (cores_of (e ∷ [])) b))
nest_of {s0} {s1} {s2} {s3} {s4} {left} {n} {m} {k} {j} {x} e b a p i w l q =
    let s = two_parts e b (λ r t. node.Let (r ∷ []) t) a p i w l q in
    let one : count e + 0 ≡ count e = omega arith in
    record {
      first = s.first;
      behind = rw (one, append-nil) s.behind;
      grown = (let r = s.grown in omega arith);
      room = (let r = s.room in omega arith);
      low = (let r = s.low in omega arith);
    }

-- one part in order
pub alone_of : {s0 s1 s2 s3 : List Node} {left n k : ℕ} {x : Node} (c : Core)
    → Stands s0 s1 left n (x ∷ []) 1 1 → Stands s1 s2 (left - 1) k (layout (length s1) c) (count c) (height c)
    → s3 ≡ slice_set s2 n (node.Seq (k ∷ [])) → length s3 ≡ length s2
    → Stands s0 s3 left n (layout (length s0) (seq (cores_of (c ∷ [])))) (count (seq (cores_of (c ∷ [])))) (height (seq (cores_of (c ∷ []))))
alone_of {s0} {s1} {s2} {s3} {left} {n} {k} {x} c a p w l =
    let first : k ≡ length s0 + 1 = p.first ∙ a.grown in
    let s = set_head (node.Seq ((length s0 + 1) ∷ [])) (first_part c a p) (w ∙ ap (λ r. slice_set s2 n (node.Seq (r ∷ []))) first) l in
    let one : count c + 0 ≡ count c = omega arith in
    record {
      first = s.first;
      behind = rw append-nil s.behind;
      grown = (let r = s.grown in omega arith);
      room = (let r = s.room in omega arith);
      low = (let r = s.low in omega arith);
    }

-- a choice, and what is taken otherwise
pub choice_of : {s0 s1 s2 s3 s4 s5 : List Node} {left n m k j i : ℕ} {x : Node} (t a b : Core)
    → Stands s0 s1 left n (x ∷ []) 1 1 → Stands s1 s2 (left - 1) k (layout (length s1) t) (count t) (height t)
    → Stands s2 s3 (left - 1) j (layout (length s2) a) (count a) (height a)
    → m ≡ length s3 → s4 ≡ slice_set s3 n (node.If k j m) → length s4 ≡ length s3 → Stands s4 s5 (left - 1) i (layout (length s4) b) (count b) (height b)
    → Stands s0 s5 left n (layout (length s0) (branch t a b)) (count (branch t a b)) (height (branch t a b))
choice_of {s0} {s1} {s2} {s3} {s4} {s5} {left} {n} {m} {k} {j} {i} {x} t a b o p q e w l r =
    let first : k ≡ length s0 + 1 = p.first ∙ o.grown in
    let second : j ≡ length s0 + 1 + count t = (let u = q.first in let v = p.grown in let y = o.grown in omega arith) in
    let third : m ≡ length s0 + 1 + count t + count a = (let u = q.grown in let v = p.grown in let y = o.grown in omega arith) in
    let same : node.If k j m ≡ node.If (length s0 + 1) (length s0 + 1 + count t) (length s0 + 1 + count t + count a) = cc in
    let s = then_part b (set_head (node.If (length s0 + 1) (length s0 + 1 + count t) (length s0 + 1 + count t + count a)) (then_part a (first_part t o p) q)
    (w ∙ ap (λ z. slice_set s3 n z) same) l) r in
    let place : length s0 + 1 + (count t + count a) ≡ length s0 + 1 + count t + count a = omega arith in
    record {
      first = s.first;
      behind = s.behind ∙ (rw (place, append_assoc) refl);
      grown = (let u = s.grown in omega arith);
      room = (let u = s.room in omega arith);
      low = (let u = s.low in omega arith);
    }

count_last : (xs : List Core) (c : Core) → count_all (cores_of (xs ++ c ∷ [])) ≡ count_all (cores_of xs) + count c
count_last [] c = omega arith
count_last (x ∷ xs) c = omega (arith, count_last xs c)

height_last : (xs : List Core) (c : Core) → height_all (cores_of (xs ++ c ∷ [])) ≡ max (height_all (cores_of xs)) (height c)
height_last [] c = omega arith
height_last (x ∷ xs) c = omega (arith, height_last xs c)

starts_last : (n : ℕ) (xs : List Core) (c : Core) → starts n (cores_of (xs ++ c ∷ [])) ≡ starts n (cores_of xs) ++ (n + count_all (cores_of xs)) ∷ []
starts_last n [] c = let e : n + 0 ≡ n = omega arith in rw e refl
starts_last n (x ∷ xs) c =
    let e : n + count x + count_all (cores_of xs) ≡ n + (count x + count_all (cores_of xs)) = omega arith in
    ap (λ r. n ∷ r) (starts_last (n + count x) xs c ∙ rw e refl)

layout_last : (n : ℕ) (xs : List Core) (c : Core) → layout_all n (cores_of (xs ++ c ∷ [])) ≡ layout_all n (cores_of xs) ++ layout (n + count_all (cores_of xs)) c
layout_last n [] c = let e : n + 0 ≡ n = omega arith in rw (e, append-nil) refl
layout_last n (x ∷ xs) c =
    let e : n + count x + count_all (cores_of xs) ≡ n + (count x + count_all (cores_of xs)) = omega arith in
    rw (layout_last (n + count x) xs c, e) (sym (append_assoc (layout n x) _ _))

-- nothing yet
pub all_none : (s : List Node) (left : ℕ) → StandAll s s left [] no_cores
all_none s left =
    record { first = refl; behind = sym (append-nil s); grown = omega arith; room = λ h. absurd (omega arith); low = omega arith }

-- one more tree after others
pub all_more : {s0 s1 s2 : List Node} {left k : ℕ} {ns : List ℕ} (xs : List Core) (c : Core)
    → StandAll s0 s1 left ns (cores_of xs) → Stands s1 s2 left k (layout (length s1) c) (count c) (height c)
    → StandAll s0 s2 left (ns ++ k ∷ []) (cores_of (xs ++ c ∷ []))
all_more {s0} {s1} {s2} {left} {k} {ns} xs c a b =
    let n = count_last xs c in
    let h = height_last xs c in
    record {
      first = rw (a.first, b.first, a.grown) (sym (starts_last (length s0) xs c));
      behind = b.behind ∙ (rw (a.grown, layout_last (length s0) xs c, a.behind) (append_assoc s0 (layout_all (length s0) (cores_of xs)) (layout (length s0 + count_all (cores_of xs)) c)));
      grown = (let p = a.grown in let q = b.grown in omega arith);
      room = λ some. (let p = a.grown in let q = b.room in omega arith);
      low = (let p = a.low in let q = b.low in omega arith);
    }

count_within : (xs : List Core) (i : ℕ) (d : Core) → i < length xs → count_all (cores_of (take i xs)) + count (get_or xs i d) ≤ count_all (cores_of xs)
count_within [] i d h = absurd (omega arith)
count_within (x ∷ xs) zero d h = omega arith
count_within (x ∷ xs) (suc i) d h = omega (arith, count_within xs i d (omega arith))

height_within : (xs : List Core) (i : ℕ) (d : Core) → i < length xs → height (get_or xs i d) ≤ height_all (cores_of xs)
height_within [] i d h = absurd (omega arith)
height_within (x ∷ xs) zero d h = omega arith
height_within (x ∷ xs) (suc i) d h = omega (arith, height_within xs i d (omega arith))

-- what is too much for one tree is too much for all
pub all_lack : {s0 s1 : List Node} {left : ℕ} {ns : List ℕ} (xs : List Core) (i : ℕ) (d : Core) → i < length xs → d ≡ get_or xs i d
    → StandAll s0 s1 left ns (cores_of (take i xs)) → Lacks (length s1) left (count d) (height d) → Lacks (length s0) left (count_all (cores_of xs)) (height_all (cores_of xs))
all_lack {s0} {s1} {left} {ns} xs i d l e a h =
    λ room.
    (let c = count_within xs i d l in let z = height_within xs i d l in let p = a.grown in
    let more : count d ≡ count (get_or xs i d) = ap count e in let high : height d ≡ height (get_or xs i d) = ap height e in
    let low = h (omega arith) in omega arith)

pub all_stops : {s0 s1 : List Node} {left : ℕ} {ns : List ℕ} (s2 : List Node) (result : Result (List ℕ) LayFault) (g e : LayFault) (xs : List Core) (i : ℕ) (d : Core)
    → i < length xs → d ≡ get_or xs i d → result ≡ Err g → g ≡ e
    → StandAll s0 s1 left ns (cores_of (take i xs)) → Lays (Err e) s1 s2 left d → LaysAll result s0 s2 left (cores_of xs)
all_stops s2 result g Memory xs i d l n a b s h = rw (a, b) tt
all_stops s2 result g TooMany xs i d l n a b s h = rw (a, b) (all_lack xs i d l n s h)

no_room : (old mid more : ℕ) → (0 < more → mid + more ≤ 16384) → mid ≤ 16384 → mid + more ≤ 16384
no_room old mid zero h l = omega arith
no_room old mid (suc more) h l = let r = h (omega arith) in omega arith

-- the bodies of tasks after an expression
pub script_stands : {old mid new : List Node} {n : ℕ} {numbers : List ℕ} (c : Core) (cs : Cores)
    → Stands old mid 1024 n (layout (length old) c) (count c) (height c) → StandAll mid new 1024 numbers cs → StandScript old new numbers c cs
script_stands {old} {mid} {new} {n} {numbers} c cs a b =
    let here : length mid ≡ length old + count c = a.grown in
    record {
      first = b.first ∙ ap (λ k. starts k cs) here;
      behind = b.behind ∙ (rw (here, a.behind) (append_assoc old (layout (length old) c) (layout_all (length old + count c) cs)));
      room = (let r = no_room (length old) (length mid) (count_all cs) b.room (let q = a.room in omega arith) in omega arith);
      low = (let p = a.low in let q = b.low in omega arith);
    }

pub expression_lacks : (old : ℕ) (c : Core) (cs : Cores) → Lacks old 1024 (count c) (height c) → Lacks old 1024 (count c + count_all cs) (max (height c) (height_all cs))
expression_lacks old c cs h = λ room. (let low = h (omega arith) in omega arith)

pub bodies_lack : {old mid : List Node} {n : ℕ} (c : Core) (cs : Cores) → Stands old mid 1024 n (layout (length old) c) (count c) (height c)
    → Lacks (length mid) 1024 (count_all cs) (height_all cs) → Lacks (length old) 1024 (count c + count_all cs) (max (height c) (height_all cs))
bodies_lack {old} {mid} {n} c cs a h = λ room. (let g = a.grown in let low = h (omega arith) in omega arith)
