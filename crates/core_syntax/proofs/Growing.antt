-- Bodies stay closed where cells are defined after them.
use Rattle.std.proofs.Common.{◌≡◌, ℕ, ◌+◌, ◌≤◌, Bool, false, List, [], ◌∷◌, ◌++◌, sym, ◌∙◌, arith, append_assoc, append-nil}
use Rattle.script_nodes.specs.Core.{Core, Cores, lit, var, bind, branch, repeat, prim, call, seq, and_all, or_any, send, finish, back, isolate, cell_ref, cell_shadow, inst_ref, inst_set, inst_add, no_cores, core, cores_of}
use Rattle.script_nodes.specs.Closed.{IsClosed, AreClosed, AreBodies, cores_length}

module _ (w i v j : ℕ) (web : w ≤ v) (cells : i ≤ j) where
  mutual
    closed_more : (ks : List ℕ) (d : ℕ) (p : Bool) (c : Core) → IsClosed w i ks d p c → IsClosed v j ks d p c
    closed_more ks d p (lit x) k = tt
    closed_more ks d p (var x) k = k
    closed_more ks d p (bind es b) k = (all_more ks d p es k.0, closed_more ks (cores_length es + d) p b k.1)
    closed_more ks d p (branch t a b) k = (closed_more ks d p t k.0, closed_more ks d p a k.1, closed_more ks d p b k.2)
    closed_more ks d p (repeat n b) k = (closed_more ks d p n k.0, closed_more ks (1 + d) p b k.1)
    closed_more ks d p (prim o es) k = (k.0, all_more ks d p es k.1)
    closed_more ks d p (call t es) k = (k.0, k.1, all_more ks d _ es k.2)
    closed_more ks d p (seq es) k = all_more ks d p es k
    closed_more ks d p (and_all es) k = all_more ks d p es k
    closed_more ks d p (or_any es) k = all_more ks d p es k
    closed_more ks d p (send kind b) k = (k.0, closed_more ks (1 + d) _ b k.1)
    closed_more ks d p (finish b) k = (k.0, closed_more ks d _ b k.1)
    closed_more ks d p (back b) k = (k.0, closed_more ks d _ b k.1)
    closed_more ks d p (isolate b) k = (k.0, closed_more ks d _ b k.1)
    closed_more ks d p (cell_ref c) k = omega arith
    closed_more ks d p (cell_shadow c e) k = (k.0, (let h = k.1 in omega arith), closed_more ks d _ e k.2)
    closed_more ks d p (inst_ref c) k = omega arith
    closed_more ks d p (inst_set c e) k = (k.0, (let h = k.1 in omega arith), closed_more ks d _ e k.2)
    closed_more ks d p (inst_add c e) k = (k.0, (let h = k.1 in omega arith), closed_more ks d _ e k.2)

    all_more : (ks : List ℕ) (d : ℕ) (p : Bool) (cs : Cores) → AreClosed w i ks d p cs → AreClosed v j ks d p cs
    all_more ks d p no_cores k = tt
    all_more ks d p (core c cs) k = (closed_more ks d p c k.0, all_more ks d p cs k.1)

  pub bodies_more : (earlier ks : List ℕ) (cs : Cores) → AreBodies w i earlier ks cs → AreBodies v j earlier ks cs
  bodies_more earlier [] no_cores h = tt
  bodies_more earlier [] (core c cs) h = absurd h
  bodies_more earlier (k ∷ ks) no_cores h = absurd h
  bodies_more earlier (k ∷ ks) (core c cs) h = (closed_more earlier k _ c h.0, bodies_more (earlier ++ k ∷ []) ks cs h.1)

-- one more body
pub bodies_last : (w i : ℕ) (earlier ks all : List ℕ) (cs : List Core) (k : ℕ) (c : Core) → earlier ++ ks ≡ all → AreBodies w i earlier ks (cores_of cs) → IsClosed w i all k false c
    → AreBodies w i earlier (ks ++ k ∷ []) (cores_of (cs ++ c ∷ []))
bodies_last w i earlier [] all [] k c e h g = ((let same : all ≡ earlier = sym e ∙ append-nil earlier in rw same at g), tt)
bodies_last w i earlier [] all (x ∷ cs) k c e h g = absurd h
bodies_last w i earlier (n ∷ ks) all [] k c e h g = absurd h
bodies_last w i earlier (n ∷ ks) all (x ∷ cs) k c e h g =
    (h.0, bodies_last w i (earlier ++ n ∷ []) ks all cs k c (append_assoc earlier (n ∷ []) ks ∙ e) h.1 g)
