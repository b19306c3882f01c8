-- The difference that is computed is the difference.
use Rattle.std.proofs.Common.{◌≡◌, ℕ, Bool, true, false, List, [], ◌∷◌, reverse, refl, sym, subst, inl, inr, cond}
use Rattle.std.specs.Bool.{Decides}
use Rattle.std.proofs.lemmas.Bool.Decides.{not_from_Decides}
use Rattle.script_value.specs.Val.{Val}
use Rattle.script_nodes.specs.PrimSpec.Same.{same}
use Rattle.script_nodes.proofs.PrimSpec.Tests.{same_decides}
use Rattle.web_cells.specs.Shadows.{binding}
use Rattle.web_cells.specs.Own.{IsOwn}
use Rattle.machine_states.specs.Machine.{Suspended}
use Rattle.frame_codec.specs.Deltas.{Delta, Shares, IsDelta}
use Rattle.frame_codec.specs.Difference.{same_frame, one_longer, shared_by, is_value, own_of, difference, DifferencesAreComputed}
use Rattle.frame_codec.proofs.Differences.{joins, are_one}
use Rattle.frame_codec.proofs.Same.{frame_decides, bound_decides}

pub shares : {A : Type 0} (test : A → A → Bool) → ((x y : A) → Decides (test x y) (x ≡ y)) → (xs ys : List A)
    → Shares xs ys (shared_by test xs ys).0 (shared_by test xs ys).1
shares test decides [] ys = (refl, tt)
shares test decides (x ∷ xs) [] = (refl, tt)
shares {A} test decides (x ∷ xs) (y ∷ ys) = by_test (test x y) refl (shares test decides xs ys)
  where
    by_test : (b : Bool) → test x y ≡ b → Shares xs ys (shared_by test xs ys).0 (shared_by test xs ys).1
        → let z = cond b (one_longer (shared_by test xs ys)) (0, y ∷ ys) in Shares (x ∷ xs) (y ∷ ys) z.0 z.1
    by_test true e later = ((decides x y).0 e, later)
    by_test false e later = (refl, not_from_Decides (test x y) (decides x y) e)

pub owns : (p ss : List (ℕ × Val)) → IsOwn p ss (own_of p ss)
owns p [] = refl
owns p (s ∷ ss) = by_test (is_value (binding s.0 p) s.1) refl (owns p ss)
  where
    by_test : (b : Bool) → is_value (binding s.0 p) s.1 ≡ b → IsOwn p ss (own_of p ss) → IsOwn p (s ∷ ss) (cond b (own_of p ss) (s ∷ own_of p ss))
    by_test true e later = inl ((bound_decides (binding s.0 p) s.1).0 e, later)
    by_test false e later = inr (not_from_Decides (is_value (binding s.0 p) s.1) (bound_decides (binding s.0 p) s.1) e, (own_of p ss, (refl, later)))

pub differs : (p d : Suspended) → IsDelta p d (difference p d)
differs p d = record {
  env = shares same same_decides p.env d.env;
  frames = shares same_frame frame_decides (reverse p.frames) (reverse d.frames);
  shadows = owns p.shadows d.shadows;
}

pub are_computed : DifferencesAreComputed
are_computed = record {
  one = λ p d x. (λ is. are_one p d x (difference p d) is (differs p d), λ e. subst (λ (y : Delta). IsDelta p d y) (sym e) (differs p d));
  back = λ p d on. joins p d (difference p d) on.rises on.rise on.all (differs p d);
}
