-- The cells as they are after one effect more.
use Rattle.std.proofs.Common.{◌≡◌, ℕ, List, [], ◌∷◌, ◌++◌, map, Result, Ok, Err, OnOk, OnErr, refl, sym, ap, ◌∙◌}
use Rattle.std.specs.Prelude.{slice_set, ℤ}
use Rattle.std.proofs.lemmas.List.{map-append}
use Rattle.script_value.specs.Val.{Val}
use Rattle.script_value.specs.declared.value.Value.{Value}
use Rattle.instance_cells.specs.Cells as spec
use Rattle.instance_cells.specs.Cells.{cell_at, landed, commit, sum, value_or}
use Rattle.script_value.specs.declared.outcome.Fault.{Fault}
use Rattle.instance_cells.specs.Views.{effect_of}
use Rattle.instance_cells.specs.declared.effect.Effect.{Effect}
use Rattle.instance_cells.specs.declared.effect.Effect.TheVariants.{Read, Add}
use Rattle.instance_cells.proofs.Each.{kept}

commit_more : (es : List spec.Effect) (e : spec.Effect) (cells : List Val) → commit (es ++ e ∷ []) cells ≡ landed e (commit es cells)
commit_more [] e cells = refl
commit_more (d ∷ es) e cells = commit_more es e (landed d cells)

-- one more effect of the program
pub applied_more : (old : List Effect) (e : Effect) (start now : List Val) → now ≡ commit (map effect_of old) start
    → landed (effect_of e) now ≡ commit (map effect_of (old ++ e ∷ [])) start
applied_more old e start now h =
    ap (landed (effect_of e)) h
    ∙ sym (ap (λ (es : List spec.Effect). commit es start) (map-append effect_of old (e ∷ [])) ∙ commit_more (map effect_of old) (effect_of e) start)

-- a read that was recorded, or was not
pub read_applied : {X E : Type 0} (r : Result X E) (old new : List Effect) (c : ℕ) (v : Value) (start now : List Val) → now ≡ commit (map effect_of old) start
    → OnOk r (new ≡ old ++ Read c v ∷ []) → OnErr r (new ≡ old) → now ≡ commit (map effect_of new) start
read_applied (Ok x) old new c v start now h ok err =
    kept now c ∙ (applied_more old (Read c v) start now h ∙ sym (ap (λ (es : List Effect). commit (map effect_of es) start) ok))
read_applied (Err x) old new c v start now h ok err = h ∙ sym (ap (λ (es : List Effect). commit (map effect_of es) start) err)

-- a sum that was written
pub add_applied : (old new : List Effect) (c : ℕ) (n : ℤ) (w x : Val) (start now later : List Val) → now ≡ commit (map effect_of old) start
    → w ≡ cell_at now c → sum w n ≡ Ok x → later ≡ slice_set now c x → new ≡ old ++ Add c n ∷ [] → later ≡ commit (map effect_of new) start
add_applied old new c n w x start now later h is s wrote noted =
    wrote
    ∙ sym (ap (λ (r : Result Val Fault). slice_set now c (value_or (cell_at now c) r)) (ap (λ (v : Val). sum v n) (sym is) ∙ s))
    ∙ applied_more old (Add c n) start now h
    ∙ sym (ap (λ (es : List Effect). commit (map effect_of es) start) noted)
