use Rattle.std.proofs.Common.{◌≡◌, ◌≤◌, ◌^◌, ◌∙◌, ◌∷◌, [], inl, inr, refl, ap, sym, subst, true, List, Some, arith}
use Rattle.play_steps.specs.Step.{Step, IsWithin, is_edit}
use Rattle.play_steps.specs.Transcript.{fits}
use Rattle.play_steps.specs.Views.{meaning}
use Rattle.play_steps.specs.Played.{Came, spot}
use Rattle.play_steps.specs.Texts.{print}
use Rattle.play_steps.specs.declared.report.Report.{Report}
use Rattle.measured_run.specs.Fnv.{goes_on}
use Rattle.measured_run.specs.Tallies.{counted}
use Rattle.measured_run.specs.Drawing.{learned_from}
use Rattle.measured_run.proofs.Fitting.{drawn_within, drawn_fits, none_edits}
use Rattle.measured_run.proofs.Going.{drawn_is, step_is, told_by, course_is, halts_on}
use Rattle.measured_run.proofs.measuring.go_on.Goals as goal

pub perform-requires-clause-range : goal.perform-requires-clause-range
perform-requires-clause-range g c =
    let r = g.T.Stage.rules in
    let s = g.T.Stage.state c.args.stage.now in
    let source = c.args.course.now.generator in
    let few : r.shelves s ≤ 2 ^ 32 = first_of (omega (arith, c.shelves-shelves.ensures), grind (arith, c.shelves-shelves.ensures)) in
    let draws = drawn_is r s c.shelves-shelves.result c.holders-workers.result source c.next.new.self c.in-Ok.step c.shelves-shelves.ensures c.holders-workers.ensures c.in-Ok.ensures.drawn in
    let is = step_is r s source c.next.new.self c.in-Ok.step (meaning c.as_step.result) draws c.as_step.ensures in
    subst IsWithin (sym is) (drawn_within r s source c.requires.some few c.requires.clock)

pub perform-requires-clause-no_edit : goal.perform-requires-clause-no_edit
perform-requires-clause-no_edit g c = ap is_edit c.as_step.ensures ∙ none_edits c.in-Ok.step

pub perform-requires-clause-fitting : goal.perform-requires-clause-fitting
perform-requires-clause-fitting g c =
    let r = g.T.Stage.rules in
    let s = g.T.Stage.state c.args.stage.now in
    let source = c.args.course.now.generator in
    let few : r.shelves s ≤ 2 ^ 32 = first_of (omega (arith, c.shelves-shelves.ensures), grind (arith, c.shelves-shelves.ensures)) in
    let draws = drawn_is r s c.shelves-shelves.result c.holders-workers.result source c.next.new.self c.in-Ok.step c.shelves-shelves.ensures c.holders-workers.ensures c.in-Ok.ensures.drawn in
    let is = step_is r s source c.next.new.self c.in-Ok.step (meaning c.as_step.result) draws c.as_step.ensures in
    subst (λ (x : Step). fits r x s ≡ true) (sym is) (drawn_fits r s source c.requires.some few c.requires.clock)

pub returns-in-Err-clause-went : goal.returns-in-Err-clause-went
returns-in-Err-clause-went g c known own =
    let r = g.T.Stage.rules in
    let s = g.T.Stage.state c.args.stage.now in
    let source = c.args.course.now.generator in
    let few : r.shelves s ≤ 2 ^ 32 = first_of (omega (arith, c.shelves-shelves.ensures), grind (arith, c.shelves-shelves.ensures)) in
    let draws = drawn_is r s c.shelves-shelves.result c.holders-workers.result source c.next.new.self c.in-Ok.step c.shelves-shelves.ensures c.holders-workers.ensures c.in-Ok.ensures.drawn in
    let is = step_is r s source c.next.new.self c.in-Ok.step (meaning c.as_step.result) draws c.as_step.ensures in
    halts_on r (g.T.Stage.left c.perform.new.devices) c.args.course.now (record { generator = c.next.new.self; tally = c.args.course.now.tally; hash = c.args.course.now.hash }) (spot r s (g.T.Stage.faults c.args.stage.now c.args.devices.now))
    (spot r (g.T.Stage.state c.perform.new.stage) (g.T.Stage.faults c.perform.new.stage c.perform.new.devices)) (meaning c.as_step.result) c.in-Err.halt is (drawn_fits r s source c.requires.some few c.requires.clock)
    (c.in-Err.ensures.came (told_by g.T.Stage.tells (Some (meaning c.as_step.result) ∷ []) known) own)

pub returns-in-Ok-note-clause-went : goal.returns-in-Ok-note-clause-went
returns-in-Ok-note-clause-went g c known own =
    let r = g.T.Stage.rules in
    let s = g.T.Stage.state c.args.stage.now in
    let source = c.args.course.now.generator in
    let told = c.in-Ok-perform.told.items in
    let old = spot r s (g.T.Stage.faults c.args.stage.now c.args.devices.now) in
    let new = spot r (g.T.Stage.state c.perform.new.stage) (g.T.Stage.faults c.perform.new.stage c.perform.new.devices) in
    let few : r.shelves s ≤ 2 ^ 32 = first_of (omega (arith, c.shelves-shelves.ensures), grind (arith, c.shelves-shelves.ensures)) in
    let draws = drawn_is r s c.shelves-shelves.result c.holders-workers.result source c.next.new.self c.in-Ok.step c.shelves-shelves.ensures c.holders-workers.ensures c.in-Ok.ensures.drawn in
    let is = step_is r s source c.next.new.self c.in-Ok.step (meaning c.as_step.result) draws c.as_step.ensures in (
      told,
      record {
        fitting = drawn_fits r s source c.requires.some few c.requires.clock;
        came = subst (λ (x : Step). Came r old x told new) is (c.in-Ok-perform.ensures.came (told_by g.T.Stage.tells (Some (meaning c.as_step.result) ∷ []) known) own);
      },
      course_is r c.args.course.now c.note.new.course s c.next.new.self c.in-Ok.step told draws
          (c.in-Ok-note.ensures.learned ∙ ap (λ (xs : List Report). learned_from xs c.next.new.self) c.deref-2.ensures.value)
          (c.in-Ok-note.ensures.tally ∙ c.count.ensures ∙ ap (λ (xs : List Report). counted c.args.course.now.tally xs) c.deref.ensures.value)
          (c.in-Ok-note.ensures.hashed ∙ ap (λ (xs : List Report). goes_on c.args.course.now.hash (print xs)) c.deref-2.ensures.value),
    )

-- there was no memory to learn of what was told
pub returns-clause-went : goal.returns-clause-went
returns-clause-went g c known own =
    let r = g.T.Stage.rules in
    let s = g.T.Stage.state c.args.stage.now in
    let source = c.args.course.now.generator in
    let old = spot r s (g.T.Stage.faults c.args.stage.now c.args.devices.now) in
    let new = spot r (g.T.Stage.state c.perform.new.stage) (g.T.Stage.faults c.perform.new.stage c.perform.new.devices) in
    let few : r.shelves s ≤ 2 ^ 32 = first_of (omega (arith, c.shelves-shelves.ensures), grind (arith, c.shelves-shelves.ensures)) in
    let draws = drawn_is r s c.shelves-shelves.result c.holders-workers.result source c.next.new.self c.in-Ok.step c.shelves-shelves.ensures c.holders-workers.ensures c.in-Ok.ensures.drawn in
    let is = step_is r s source c.next.new.self c.in-Ok.step (meaning c.as_step.result) draws c.as_step.ensures in
    inr (inl (
      c.in-Ok-perform.told.items,
      record {
        fitting = drawn_fits r s source c.requires.some few c.requires.clock;
        came = subst (λ (x : Step). Came r old x c.in-Ok-perform.told.items new) is
            (c.in-Ok-perform.ensures.came (told_by g.T.Stage.tells (Some (meaning c.as_step.result) ∷ []) known) own);
      },
    ))

-- nor to draw the next step
pub returns-in_default-clause-went : goal.returns-in_default-clause-went
returns-in_default-clause-went g c known own = inl refl

pub returns-in-Ok-note-clause-own : goal.returns-in-Ok-note-clause-own
returns-in-Ok-note-clause-own g c known own = c.in-Ok-perform.ensures.own (told_by g.T.Stage.tells (Some (meaning c.as_step.result) ∷ []) known) own

pub returns-in-Err-clause-own : goal.returns-in-Err-clause-own
returns-in-Err-clause-own g c known own = c.in-Err.ensures.own (told_by g.T.Stage.tells (Some (meaning c.as_step.result) ∷ []) known) own

pub returns-clause-own : goal.returns-clause-own
returns-clause-own g c known own = c.in-Ok-perform.ensures.own (told_by g.T.Stage.tells (Some (meaning c.as_step.result) ∷ []) known) own
