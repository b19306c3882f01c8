use Rattle.std.proofs.Common.{◌∙◌, ◌++◌, ◌+◌, ◌<◌, ◌^◌, ◌∷◌, [], ℕ, List, All, length, drop, get_or, ap, subst, sym, refl, arith}
use Rattle.std.proofs.lemmas.List.{append-nil}
use Rattle.page_journal.specs.Records.{frames}
use Rattle.file_notes.specs.Notes.{picked}
use Rattle.file_notes.proofs.Steps.{picked_on, picked_off}
use Rattle.file_copies.proofs.Sized.{middle, none_left, put_more}
use Rattle.file_copies.proofs.older.put_planned.Goals as goal
use Rattle.file_copies.proofs.older.put_planned.Goals.{then-plan-place+in_ok-put_record, else-plan-place}

pub loop-place-init : goal.loop-place-init
loop-place-init c = ([], (refl, sym (append-nil c.args.file.now.items)))

pub put_record-requires : goal.put_record-requires
put_record-requires c =
    let plan = c.args.plan.now in
    let others = c.args.others.now in
    let k = c.loop-place.place in
    let sofar = c.loop-place.invariant in
    let in_plan = c.loop-place-test.true in
    let x : List ℕ = get_or others k c.index-others-place.result in
    let step = picked_on plan others sofar.0 (sofar.0 ++ x ∷ []) _ k c.index-others-place.result in_plan (omega (arith, in_plan, c.requires.plan)) c.if-plan-place.true refl sofar.1.0 in
    let short : length x < 2 ^ 32 =
    middle (λ (body : List ℕ). length body < 2 ^ 32) sofar.0 (picked (drop (k + 1) plan) (drop (k + 1) others)) x (subst (All (λ (body : List ℕ). length body < 2 ^ 32)) (sym step) c.requires.short) in
    let long = ap (λ (body : List ℕ). length body) (c.as_slice.ensures ∙ c.index-others-place.is) in
    omega (arith, short, long)

pub loop-place-preserved : goal.loop-place-preserved
loop-place-preserved c =
    let plan = c.args.plan.now in
    let others = c.args.others.now in
    let k = c.loop-place.place in
    let sofar = c.loop-place.invariant in
    let in_plan = c.loop-place-test.true in
    elim c.if-plan-place.branch [
      | then-plan-place+in_ok-put_record w ↦ (let x : List ℕ = get_or others k w.index-others-place.result in (
        sofar.0 ++ x ∷ [],
        (
          picked_on plan others sofar.0 (sofar.0 ++ x ∷ []) _ k w.index-others-place.result in_plan (omega (arith, in_plan, c.requires.plan)) w.if-plan-place.true refl sofar.1.0,
          put_more c.args.file.now.items c.loop-place.file.items c.if-plan-place.file.items sofar.0 x w.as_slice.result.now sofar.1.1 (ap (λ v. v.items) w.file-is ∙ w.in_ok-put_record.ensures) (w.as_slice.ensures ∙ w.index-others-place.is),
        ),
      ))
      | else-plan-place w ↦ (sofar.0, (picked_off plan others sofar.0 _ k in_plan (omega (arith, in_plan, c.requires.plan)) w.if-plan-place.false sofar.1.0, ap (λ v. v.items) w.file-is ∙ sofar.1.1))
    ]

pub returns : goal.returns
returns c =
    let sofar = c.loop-place.invariant in
    sofar.1.1 ∙ ap (λ (bodies : List (List ℕ)). c.args.file.now.items ++ frames bodies) (none_left c.args.plan.now c.args.others.now sofar.0 _ c.loop-place.place c.loop-place-test.false sofar.1.0)
