use Rattle.std.proofs.Common.{◌≤◌, ◌<◌, ◌*◌, IsTrue}
use Rattle.play_steps.specs.Rules.{StaysFirst, StaysUp}
use Rattle.play_steps.specs.Played.{spot}
use Rattle.measured_run.specs.Generator.{source_of}
use Rattle.measured_run.specs.Course.{shelves_of}
use Rattle.measured_run.proofs.Reached.{Reached}
use Rattle.measured_run.proofs.measuring.load.Given as goal

abbrev pub invariant-loop-done : goal.invariant-loop-done
invariant-loop-done g l =
    let stage = g.T.Stage in
    record {
      reached : IsTrue stage.tells → stage.own l.initial.stage
          → Reached stage.rules (spot stage.rules (stage.state l.initial.stage) (stage.faults l.initial.stage l.initial.devices)) (source_of l.number) l.done
          (spot stage.rules (stage.state l.stage) (stage.faults l.stage l.devices)) l.course;
      some : 0 < shelves_of stage.rules (stage.state l.stage);
      clock : l.course.generator.clock ≤ 59 * l.done;
      sound : stage.sound l.stage;
      own : IsTrue stage.tells → stage.own l.initial.stage → stage.own l.stage;
      home : stage.at_home l.stage l.devices;
      later : stage.faults l.initial.stage l.initial.devices ≤ stage.faults l.stage l.devices;
      failed_later : StaysUp (stage.failed l.initial.devices) (stage.failed l.devices);
      asked : StaysFirst (stage.asked l.initial.devices) (stage.asked l.devices);
    }
