use Rattle.std.proofs.Common.{◌≡◌, ◌≤◌, ◌+◌, length, true}
use Rattle.play_steps.specs.Step.{steps_of, is_told}
use Rattle.play_steps.specs.Rules.{StaysFirst, StaysUp}
use Rattle.play_steps.specs.Played.{played, scene}
use Rattle.play_steps.specs.Courses.{left_in}
use Rattle.play_steps.proofs.Runs.{Reached}
use Rattle.play_steps.proofs.run.play.Given as goal

abbrev pub invariant-steps : goal.invariant-steps
invariant-steps g l =
    let stage = g.T.Stage in
    record {
      reached : is_told stage.tells (steps_of l.text) ≡ true → stage.own l.initial.stage
          → Reached stage.rules (played stage.rules (stage.state l.initial.stage) l.text)
          (scene stage.rules (g.O.Sink.view l.initial.sink).written (stage.state l.initial.stage) (stage.faults l.initial.stage l.initial.devices))
          (scene stage.rules (g.O.Sink.view l.sink).written (stage.state l.stage) (stage.faults l.stage l.devices)) l.number (left_in l.course);
      numbered : l.number + length l.course.rest.now ≤ length l.text + 1;
      later : (g.O.Sink.view l.initial.sink).faults ≤ (g.O.Sink.view l.sink).faults;
      sound : stage.sound l.stage;
      own : is_told stage.tells (steps_of l.text) ≡ true → stage.own l.initial.stage → stage.own l.stage;
      home : stage.at_home l.stage l.devices;
      devices_later : stage.faults l.initial.stage l.initial.devices ≤ stage.faults l.stage l.devices;
      failed_later : StaysUp (stage.failed l.initial.devices) (stage.failed l.devices);
      asked : StaysFirst (stage.asked l.initial.devices) (stage.asked l.devices);
    }

abbrev pub decreases-steps : goal.decreases-steps
decreases-steps g l = length (left_in l.course)
