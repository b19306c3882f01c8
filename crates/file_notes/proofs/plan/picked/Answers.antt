use Rattle.std.proofs.Common.{◌≡◌, ◌∙◌, ◌++◌, ◌+◌, ap, subst, sym, drop, arith}
use Rattle.file_notes.specs.Notes.{picked}
use Rattle.file_notes.proofs.Steps.{picked_on, picked_off}
use Rattle.file_notes.proofs.plan.picked.Goals as goal
use Rattle.file_notes.proofs.plan.picked.Goals.{then-plan-place+in_ok-push, else-plan-place}

pub loop-place-preserved : goal.loop-place-preserved
loop-place-preserved c =
    let k = c.loop-place.place in
    let in_notes = c.loop-place-test.true in
    elim c.if-plan-place.branch [
      | then-plan-place+in_ok-push w ↦ picked_on c.args.plan.now c.args.notes.now c.loop-place.kept.items c.if-plan-place.kept.items _ k _ (omega (arith, c.requires)) in_notes w.if-plan-place.true
          (ap (λ v. v.items) w.kept-is ∙ w.in_ok-push.ensures.items) c.loop-place.invariant
      | else-plan-place w ↦ subst (λ v. v.items ++ picked (drop (k + 1) c.args.plan.now) (drop (k + 1) c.args.notes.now) ≡ picked c.args.plan.now c.args.notes.now) (sym w.kept-is)
          (picked_off c.args.plan.now c.args.notes.now c.loop-place.kept.items _ k (omega (arith, c.requires)) in_notes w.if-plan-place.false c.loop-place.invariant)
    ]
