use Rattle.std.proofs.Common.{◌≡◌}
use Rattle.play_steps.specs.Rules.{StaysHome, StaysUp}
use Rattle.play_steps.proofs.Sweeping.{SweptOver}
use Rattle.play_steps.proofs.performing.sweep_all.Given as goal

abbrev pub invariant-loop-shelf : goal.invariant-loop-shelf
invariant-loop-shelf g l =
    let stage = g.T.Stage in
    record {
      told : stage.own l.initial.stage → SweptOver stage.rules (stage.state l.initial.stage) (stage.faults l.initial.stage) l.time l.count l.shelf l.told (stage.state l.stage) (stage.faults l.stage);
      shelves : stage.rules.shelves (stage.state l.stage) ≡ l.count;
      sound : stage.sound l.stage;
      own : stage.own l.initial.stage → stage.own l.stage;
      home : StaysHome (stage.at_home l.initial.stage) (stage.at_home l.stage);
      later : StaysUp (stage.faults l.initial.stage) (stage.faults l.stage);
    }
