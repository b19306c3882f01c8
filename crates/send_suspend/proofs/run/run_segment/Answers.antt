use Rattle.std.proofs.Common.{◌∙◌, ap}
use Rattle.script_value.specs.Views.{meaning}
use Rattle.segments.specs.Views.{outcome_of}
use Rattle.cek_machine.specs.SegmentProgress.States.{state_of}
use Rattle.machine_states.specs.Machine.{inside_of, Suspended}
use Rattle.cek_machine.specs.Spots.{frames_of}
use Rattle.cek_machine.specs.Machines.{machine_of, kept_of}
use Rattle.machine_states.specs.declared.segment.Segment.{Segment}
use Rattle.send_suspend.proofs.Law.{Came, came, is_stop}
use Rattle.send_suspend.proofs.run.run_segment.Given as given
use Rattle.send_suspend.proofs.run.run_segment.Goals as goal

came_here : (g : given.Over) (c : goal.After-drop-run-2 g)
    → Came c.args.from c.args.script.now (meaning c.args.answer.now) c.args.number c.args.url.now c.args.cells.now c.args.fuel
    (record { outcome = c.outcome_with.result; effects = c.into_parts-run.result.0.effects; entered = c.in_ok-entered.entered; left = c.into_parts-run.result.0.left; cost = c.into_parts-run.result.0.cost })
    c.args.steps.now c.run.new.steps
came_here g c =
    let m = c.in_ok-machine.machine in
    let new = c.run.new.self in
    let parts = c.into_parts-run in
    let r : Segment = record { outcome = c.outcome_with.result; effects = parts.result.0.effects; entered = c.in_ok-entered.entered; left = parts.result.0.left; cost = parts.result.0.cost } in
    let ready = c.in_ok-machine.ensures.ready in
    came c.args.from c.args.script.now m.script.now c.in_ok-machine.ensures.script ready.1.0 (meaning c.args.answer.now) c.args.number c.args.url.now c.args.cells.now c.args.fuel
    c.requires.fuel (machine_of m) ready.1.1 c.in_ok-machine.ensures.machine (outcome_of c.in_ok-end.end) (inside_of (frames_of new.spot)) (kept_of new) (state_of new.spot.progress)
    r c.args.steps.now c.run.new.steps c.in_ok-end.ensures.runs
    (is_stop r c.in_ok-end.end parts.result.0.end parts.result.1 (inside_of (frames_of new.spot)) (kept_of new) (state_of new.spot.progress) c.outcome_with.ensures parts.ensures.end parts.ensures.kept
    (c.in_ok-entered.ensures ∙ ap (λ (x : Suspended). inside_of x.frames) parts.ensures.kept) parts.ensures.effects parts.ensures.left parts.ensures.cost)

pub returns-clause-replays : goal.returns-clause-replays
returns-clause-replays g c = (came_here g c).replays

pub returns-clause-consistent : goal.returns-clause-consistent
returns-clause-consistent g c = (came_here g c).consistent

pub returns-clause-fits : goal.returns-clause-fits
returns-clause-fits g c = (came_here g c).fits

pub returns-clause-few : goal.returns-clause-few
returns-clause-few g c = (came_here g c).few
