use Rattle.std.proofs.Common.{◌∙◌, ◌++◌, ◌∷◌, [], ℕ, List, get_or, subst, sym, refl, arith}
use Rattle.file_notes.proofs.Steps.{picked_on, picked_off}
use Rattle.file_copies.specs.declared.older.Sizes.{Sizes}
use Rattle.file_copies.specs.Sizing.{AreSizesWith}
use Rattle.file_copies.proofs.Sized.{sizes_none, sizes_then, none_left}
use Rattle.file_copies.proofs.older.Sizes.with_planned.Goals as goal
use Rattle.file_copies.proofs.older.Sizes.with_planned.Goals.{then-plan-place+in_ok-sizes, else-plan-place}

pub loop-place-init : goal.loop-place-init
loop-place-init c = ([], (refl, sizes_none c.args.self))

pub loop-place-preserved : goal.loop-place-preserved
loop-place-preserved c =
    let plan = c.args.plan.now in
    let others = c.args.others.now in
    let k = c.loop-place.place in
    let sofar = c.loop-place.invariant in
    let in_plan = c.loop-place-test.true in
    elim c.if-plan-place.branch [
      | then-plan-place+in_ok-sizes w ↦ (let x : List ℕ = get_or others k w.index-others-place.result in
          let one : AreSizesWith c.loop-place.sizes (x ∷ []) c.if-plan-place.sizes = subst (λ (s : Sizes). AreSizesWith c.loop-place.sizes (x ∷ []) s) (sym w.sizes-is)
          (subst (λ (y : List ℕ). AreSizesWith c.loop-place.sizes (y ∷ []) w.in_ok-sizes.sizes) (w.as_slice.ensures ∙ w.index-others-place.is) w.in_ok-sizes.ensures) in
          (sofar.0 ++ x ∷ [], (picked_on plan others sofar.0 (sofar.0 ++ x ∷ []) _ k w.index-others-place.result in_plan (omega (arith, in_plan, c.requires)) w.if-plan-place.true refl sofar.1.0, sizes_then c.args.self c.loop-place.sizes c.if-plan-place.sizes sofar.0 (x ∷ []) sofar.1.1 one)))
      | else-plan-place w ↦ (sofar.0, (picked_off plan others sofar.0 _ k in_plan (omega (arith, in_plan, c.requires)) w.if-plan-place.false sofar.1.0, subst (λ (s : Sizes). AreSizesWith c.args.self sofar.0 s) (sym w.sizes-is) sofar.1.1))
    ]

pub returns : goal.returns
returns c =
    let sofar = c.loop-place.invariant in
    subst (λ (bodies : List (List ℕ)). AreSizesWith c.args.self bodies c.loop-place.sizes) (none_left c.args.plan.now c.args.others.now sofar.0 _ c.loop-place.place c.loop-place-test.false sofar.1.0) sofar.1.1
