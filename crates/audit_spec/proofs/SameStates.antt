-- The test of two states tells whether they are the same.
use Rattle.std.proofs.Common.{◌≡◌, ℕ, ◌==◌, ◌&&◌, List, true, refl, subst, arith}
use Rattle.std.specs.Bool.{Decides}
use Rattle.std.specs.Cmp.Lexicographic.{pointwise}
use Rattle.std.proofs.lemmas.Slice.Eq.{slice_eq-Decides}
use Rattle.std.proofs.lemmas.Bool.{and_from, and_parts}
use Rattle.std.proofs.lemmas.Bool.Decides.{nat_tests}
use Rattle.script_value.specs.Val.{Val}
use Rattle.prim_spec.specs.Same.{same}
use Rattle.prim_spec.proofs.Tests.{same_decides, same_self}
use Rattle.replay_spec.proofs.Tests.{equal_self}
use Rattle.machine_states.specs.Machine.{Frame, Suspended}
use Rattle.frame_codec.specs.Difference.{same_frame}
use Rattle.frame_codec.proofs.Same.{frame_decides}
use Rattle.audit_spec.specs.Tests.{same_binding, same_state}

binding_means : (s t : ℕ × Val) → same_binding s t ≡ true → s ≡ t
binding_means s t h =
    let both = and_parts (s.0 == t.0) (same s.1 t.1) h in
    let cell : s.0 ≡ t.0 = grind (arith, nat_tests, both.0) in
    let value : s.1 ≡ t.1 = (same_decides s.1 t.1).0 both.1 in
    λ i. (cell i, value i)

binding_self : (s : ℕ × Val) → same_binding s s ≡ true
binding_self s = and_from (s.0 == s.0) (same s.1 s.1) (equal_self s.0) (same_self s.1)

binding_decides : (s t : ℕ × Val) → Decides (same_binding s t) (s ≡ t)
binding_decides s t = (binding_means s t, λ e. subst (λ (x : ℕ × Val). same_binding s x ≡ true) e (binding_self s))

values : (vs ws : List Val) → Decides (pointwise same vs ws) (vs ≡ ws)
values vs ws = slice_eq-Decides same_decides vs ws (pointwise same vs ws) refl

frames : (fs gs : List Frame) → Decides (pointwise same_frame fs gs) (fs ≡ gs)
frames fs gs = slice_eq-Decides frame_decides fs gs (pointwise same_frame fs gs) refl

bindings : (ss ts : List (ℕ × Val)) → Decides (pointwise same_binding ss ts) (ss ≡ ts)
bindings ss ts = slice_eq-Decides binding_decides ss ts (pointwise same_binding ss ts) refl

state_means : (d e : Suspended) → same_state d e ≡ true → d ≡ e
state_means d e h =
    let x = and_parts (pointwise same d.env e.env) (pointwise same_frame d.frames e.frames && pointwise same_binding d.shadows e.shadows) h in
    let y = and_parts (pointwise same_frame d.frames e.frames) (pointwise same_binding d.shadows e.shadows) x.1 in
    let env = (values d.env e.env).0 x.0 in
    let framed = (frames d.frames e.frames).0 y.0 in
    let bound = (bindings d.shadows e.shadows).0 y.1 in
    λ i. record { env = env i; frames = framed i; shadows = bound i }

state_self : (d : Suspended) → same_state d d ≡ true
state_self d =
    and_from (pointwise same d.env d.env) (pointwise same_frame d.frames d.frames && pointwise same_binding d.shadows d.shadows) ((values d.env d.env).1 refl)
    (and_from (pointwise same_frame d.frames d.frames) (pointwise same_binding d.shadows d.shadows) ((frames d.frames d.frames).1 refl) ((bindings d.shadows d.shadows).1 refl))

pub state_decides : (d e : Suspended) → Decides (same_state d e) (d ≡ e)
state_decides d e = (state_means d e, λ s. subst (λ (x : Suspended). same_state d x ≡ true) s (state_self d))
