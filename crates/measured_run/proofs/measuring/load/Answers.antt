use Rattle.std.proofs.Common.{◌≡◌, ◌<◌, ap, sym, subst, refl, arith}
use Rattle.play_steps.specs.Played.{spot}
use Rattle.measured_run.specs.Generator.{Source, source_of}
use Rattle.measured_run.proofs.Reached.{begun, one_more}
use Rattle.measured_run.proofs.Going.{halted, measured}
use Rattle.measured_run.proofs.measuring.load.Goals as goal

pub loop-done-init : goal.loop-done-init
loop-done-init g c =
    let r = g.T.Stage.rules in
    let early = ap (λ (x : Source). x.clock) c.new.ensures in
    record {
      reached = λ known own.
          begun r (spot r (g.T.Stage.state c.args.stage.now) (g.T.Stage.faults c.args.stage.now c.args.devices.now)) (source_of c.args.number)
          (record { generator = c.new.result; tally = c.new-2.result; hash = c.new-3.result }) c.new.ensures c.new-2.ensures c.new-3.ensures;
      some = c.requires.some;
      clock = omega arith;
      sound = c.requires.sound;
      own = λ known own. own;
      home = c.requires.home;
      later = omega arith;
      failed_later = λ n. omega arith;
      asked = λ front first. first;
    }

pub returns-in-Err-clause-measured : goal.returns-in-Err-clause-measured
returns-in-Err-clause-measured g c known own =
    let r = g.T.Stage.rules in
    halted r (g.T.Stage.left c.go_on.new.devices) (spot r (g.T.Stage.state c.args.stage.now) (g.T.Stage.faults c.args.stage.now c.args.devices.now))
    (spot r (g.T.Stage.state c.loop-done.stage) (g.T.Stage.faults c.loop-done.stage c.loop-done.devices))
    (spot r (g.T.Stage.state c.go_on.new.stage) (g.T.Stage.faults c.go_on.new.stage c.go_on.new.devices)) (source_of c.args.number)
    c.loop-done.done c.args.steps c.loop-done.course c.go_on.new.course c.in-Err.halt c.loop-done-test.true
    (c.loop-done.invariant.reached known own) (c.in-Err.ensures.went known (c.loop-done.invariant.own known own))

pub loop-done-preserved : goal.loop-done-preserved
loop-done-preserved g c =
    let r = g.T.Stage.rules in
    let went = c.in-Ok.ensures in
    record {
      reached = λ known own.
          let goes = went.went known (c.loop-done.invariant.own known own) in
          one_more r (spot r (g.T.Stage.state c.args.stage.now) (g.T.Stage.faults c.args.stage.now c.args.devices.now))
          (spot r (g.T.Stage.state c.loop-done.stage) (g.T.Stage.faults c.loop-done.stage c.loop-done.devices))
          (spot r (g.T.Stage.state c.go_on.new.stage) (g.T.Stage.faults c.go_on.new.stage c.go_on.new.devices)) (source_of c.args.number)
          c.loop-done.done c.loop-done.course goes.0 goes.1 (c.loop-done.invariant.reached known own) c.go_on.new.course goes.2;
      some = subst (λ n. 0 < n) (sym went.shelves) c.loop-done.invariant.some;
      clock = omega (arith, went.slowly, c.loop-done.invariant.clock);
      sound = went.sound;
      own = λ known own. went.own known (c.loop-done.invariant.own known own);
      home = went.home;
      later = omega (arith, went.later, c.loop-done.invariant.later);
      failed_later = λ n. (let a = c.loop-done.invariant.failed_later n in let b = went.failed_later n in omega (arith, a, b));
      asked = λ front first. went.asked front (c.loop-done.invariant.asked front first);
    }

pub returns-clause-measured : goal.returns-clause-measured
returns-clause-measured g c known own =
    let r = g.T.Stage.rules in
    let all : c.loop-done.done ≡ c.args.steps = omega arith in
    measured r (g.T.Stage.left c.loop-done.devices) (spot r (g.T.Stage.state c.args.stage.now) (g.T.Stage.faults c.args.stage.now c.args.devices.now))
    (spot r (g.T.Stage.state c.loop-done.stage) (g.T.Stage.faults c.loop-done.stage c.loop-done.devices)) (source_of c.args.number)
    c.loop-done.done c.args.steps c.loop-done.course (record { tally = c.loop-done.course.tally; hash = c.value.result }) all refl c.value.ensures
    (c.loop-done.invariant.reached known own)
