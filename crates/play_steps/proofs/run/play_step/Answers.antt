use Rattle.std.proofs.Common.{rules, ◌≡◌, refl, subst}
use Rattle.play_steps.specs.Step.{Step, edit}
use Rattle.play_steps.specs.Views.{meaning}
use Rattle.play_steps.specs.Played.{Turns, scene}
use Rattle.play_steps.specs.declared.stage.Reopen.TheVariants as reopen
use Rattle.play_steps.proofs.Runs.{edit_turns, never_written, never_lost}
use Rattle.play_steps.proofs.run.play_step.Goals as goal

pub returns-in-Edit-clause-turned : goal.returns-in-Edit-clause-turned
returns-in-Edit-clause-turned g c known own =
    let stage = g.T.Stage in
    let devices = c.args.devices.now in
    let written = (g.O.Sink.view c.args.sink.now).written in
    let step : edit c.in-Edit.name.now c.in-Edit.text.now ≡ meaning c.args.step.now = search rules in
    subst (λ (s : Step). Turns stage.rules (stage.left devices) s c.play_edit.result
    (scene stage.rules written (stage.state c.args.stage.now) (stage.faults c.args.stage.now devices))
    (scene stage.rules written (stage.state c.play_edit.new.stage) (stage.faults c.play_edit.new.stage devices))) step
    (edit_turns stage.rules (stage.left devices) c.in-Edit.name.now c.in-Edit.text.now c.play_edit.result _ _ (c.play_edit.ensures.turned devices) refl)

pub returns-in-Edit-clause-write : goal.returns-in-Edit-clause-write
returns-in-Edit-clause-write g c e = absurd (never_written _ _ _ _ _ _ (c.play_edit.ensures.turned c.args.devices.now) e)

pub returns-in-Edit-clause-failed : goal.returns-in-Edit-clause-failed
returns-in-Edit-clause-failed g c shelf e = absurd (never_lost _ _ _ _ _ _ shelf reopen.Disk (c.play_edit.ensures.turned c.args.devices.now) e)

pub returns-in-Edit-clause-why : goal.returns-in-Edit-clause-why
returns-in-Edit-clause-why g c shelf e = never_lost _ _ _ _ _ _ shelf reopen.Memory (c.play_edit.ensures.turned c.args.devices.now) e

pub returns-in-Edit-clause-bytes : goal.returns-in-Edit-clause-bytes
returns-in-Edit-clause-bytes g c shelf e = never_lost _ _ _ _ _ _ shelf reopen.NotEmpty (c.play_edit.ensures.turned c.args.devices.now) e

pub returns-in-Edit-clause-damaged : goal.returns-in-Edit-clause-damaged
returns-in-Edit-clause-damaged g c known shelf place e = never_lost _ _ _ _ _ _ shelf (reopen.Damaged place) (c.play_edit.ensures.turned c.args.devices.now) e

pub returns-in-Edit-clause-other : goal.returns-in-Edit-clause-other
returns-in-Edit-clause-other g c known shelf place e = never_lost _ _ _ _ _ _ shelf (reopen.Other place) (c.play_edit.ensures.turned c.args.devices.now) e
