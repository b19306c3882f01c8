use Rattle.std.proofs.Common.{◌≤◌, List, map, drop, length, set, refl, sym, ap, subst, ◌∙◌}
use Rattle.std.proofs.lemmas.Bool.{false≢true}
use Rattle.web_cells.specs.Views.{pair_of}
use Rattle.web_cells.specs.Places.{Below, NotBelow, IsAt}
use Rattle.web_cells.specs.declared.shades.Shadow.{Shadow}
use Rattle.web_cells.proofs.Places.{replaced, inserted}
use Rattle.web_cells.proofs.shades.bind_in.Goals as goal

pub returns-then-is_at-clause-ok : goal.returns-then-is_at-clause-ok
returns-then-is_at-clause-ok c =
    let ss = c.args.shadows.now.items in
    let s = c.args.shadow in
    let k = c.place_of-place.result in
    let below : Below s.cell k ss = subst (λ (l : List Shadow). Below s.cell k l) c.as_slice.ensures.value c.place_of-place.ensures.below in
    let here : IsAt s.cell (drop k ss) = subst (λ (l : List Shadow). IsAt s.cell (drop k l)) c.as_slice-2.ensures.value (c.if-is_at.ensures.0 refl) in
    ap (λ (x : Shadow). map pair_of (set ss k x)) c.replace.ensures.after ∙ sym (replaced ss k s below here)

pub returns-clause-ok : goal.returns-clause-ok
returns-clause-ok c =
    let ss = c.args.shadows.now.items in
    let s = c.args.shadow in
    let k = c.place_of-place.result in
    let below : Below s.cell k ss = subst (λ (l : List Shadow). Below s.cell k l) c.as_slice.ensures.value c.place_of-place.ensures.below in
    let above : NotBelow s.cell (drop k ss) = subst (λ (l : List Shadow). NotBelow s.cell (drop k l)) c.as_slice.ensures.value c.place_of-place.ensures.here in
    let within : k ≤ length ss = subst (λ (l : List Shadow). k ≤ length l) c.as_slice.ensures.value c.place_of-place.ensures.within in
    let other : IsAt s.cell (drop k ss) → ⊥ = λ h. false≢true (c.if-is_at.ensures.1 (subst (λ (l : List Shadow). IsAt s.cell (drop k l)) (sym c.as_slice-2.ensures.value) h)) in
    ap (λ (l : List Shadow). map pair_of l) c.in_ok-insert.ensures.items ∙ sym (inserted ss k s below within above other)
