-- Bindings that are made in the order of their cells.
use Rattle.std.proofs.Common.{◌≡◌, ℕ, ◌+◌, ◌<◌, ◌≤◌, ◌==◌, true, false, cond, nat_lt, List, [], ◌∷◌, ◌++◌, map, refl, sym, ap, ◌∙◌, arith, append_assoc}
use Rattle.std.specs.List.{AllByRecursion}
use Rattle.std.proofs.lemmas.Bool.Decides.{nat_tests}
use Rattle.std.proofs.lemmas.List.{append-nil, map-append}
use Rattle.std.proofs.lemmas.Bool.{cond-false}
use Rattle.script_value.specs.Val.{Val}
use Rattle.web_cells.specs.Shadows.{bound_to, all_bound}
use Rattle.web_cells.specs.Views.{pair_of}
use Rattle.web_cells.specs.declared.shades.Shadow.{Shadow}
use Rattle.frame_codec.specs.Walk.{shadows_fit}
use Rattle.frame_codec.proofs.Cells.{first}

one_bound : (made : List (ℕ × Val)) (s : ℕ × Val) (ss : List (ℕ × Val)) → all_bound (made ++ s ∷ []) ss ≡ bound_to s.0 s.1 (all_bound made ss)
one_bound [] s ss = refl
one_bound (t ∷ made) s ss = one_bound made s (bound_to t.0 t.1 ss)

pub one_more : (made : List Shadow) (s : Shadow) → all_bound (map pair_of (made ++ s ∷ [])) [] ≡ bound_to s.cell (pair_of s).1 (all_bound (map pair_of made) [])
one_more made s = ap (λ (ss : List (ℕ × Val)). all_bound ss []) (map-append pair_of made (s ∷ [])) ∙ one_bound (map pair_of made) (pair_of s) []

abbrev AreBelow : ℕ → List (ℕ × Val) → Type 0
AreBelow c ss = AllByRecursion (λ s. s.0 < c) ss

behind_all : (c : ℕ) (v : Val) (ss : List (ℕ × Val)) → AreBelow c ss → bound_to c v ss ≡ ss ++ (c, v) ∷ []
behind_all c v [] h = refl
behind_all c v (s ∷ ss) h =
    let less : nat_lt c s.0 ≡ false = grind (arith, nat_tests, h.0) in
    let differ : (c == s.0) ≡ false = grind (arith, nat_tests, h.0) in
    cond-false (nat_lt c s.0) _ _ less ∙ cond-false (c == s.0) _ _ differ ∙ ap (λ (r : List (ℕ × Val)). s ∷ r) (behind_all c v ss h.1)

still_below : (least c : ℕ) (v : Val) (ss : List (ℕ × Val)) → least ≤ c → AreBelow least ss → AreBelow (c + 1) (ss ++ (c, v) ∷ [])
still_below least c v [] h b = (omega arith, tt)
still_below least c v (s ∷ ss) h b = (omega (arith, h, b.0), still_below least c v ss h b.1)

are_below : (least c : ℕ) (ss : List (ℕ × Val)) → least ≤ c → AreBelow least ss → AreBelow c ss
are_below least c [] h b = tt
are_below least c (s ∷ ss) h b = (omega (arith, h, b.0), are_below least c ss h b.1)

in_order : (least cells : ℕ) (ss front : List (ℕ × Val)) → shadows_fit least cells ss ≡ true → AreBelow least front → all_bound ss front ≡ front ++ ss
in_order least cells [] front e b = sym (append-nil front)
in_order least cells (s ∷ ss) front e b =
    let f = first least cells s ss e in
    ap (λ (r : List (ℕ × Val)). all_bound ss r) (behind_all s.0 s.1 front (are_below least s.0 front f.from b))
    ∙ in_order (s.0 + 1) cells ss (front ++ s ∷ []) f.more (still_below least s.0 s.1 front f.from b)
    ∙ append_assoc front (s ∷ []) ss

pub bound_in_order : (cells : ℕ) (ss : List (ℕ × Val)) → shadows_fit 0 cells ss ≡ true → all_bound ss [] ≡ ss
bound_in_order cells ss e = in_order 0 cells ss [] e tt
