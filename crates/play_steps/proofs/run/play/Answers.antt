use Rattle.std.proofs.Common.{◌≡◌, ◌+◌, ℕ, List, [], length, Option, subst, sym, ap, ◌∙◌, arith}
use Rattle.play_steps.specs.Rules.{StageRules}
use Rattle.play_steps.specs.Step.{Step, steps_of, with_crashes}
use Rattle.play_steps.specs.Transcript.{bad_line}
use Rattle.play_steps.specs.Played.{Scene, played, scene, Plays, Leaves}
use Rattle.play_steps.specs.Courses.{left_in}
use Rattle.play_steps.specs.declared.run.PlayEnd.{PlayEnd}
use Rattle.play_steps.specs.Views.{meaning}
use Rattle.play_steps.proofs.Runs.{Reached, begin, one_more, halted, at_end, at_line, at_step, stops, played_told}
use Rattle.play_steps.proofs.run.play.Goals as goal

-- what is left, seen by its first step
at_first : (r : StageRules) (all : List (Option Step)) (start here : Scene r) (number : ℕ) (a b : List (Option Step))
    → a ≡ b → Reached r all start here number a → Reached r all start here number b
at_first r all start here number a b e reached = subst (Reached r all start here number) e reached

-- as many lines on
at_number : (r : StageRules) (all : List (Option Step)) (start here : Scene r) (number n m : ℕ) (left : List (Option Step))
    → n ≡ m → Reached r all start here (number + m) left → Reached r all start here (number + n) left
at_number r all start here number n m left e reached = subst (λ k. Reached r all start here (number + k) left) (sym e) reached

pub steps-init : goal.steps-init
steps-init g c =
    let stage = g.T.Stage in
    let left : played stage.rules (stage.state c.args.stage.now) c.args.text.now ≡ left_in c.new-course.result =
    ap (λ n. with_crashes n (steps_of c.args.text.now)) (sym c.shelves.ensures) ∙ sym c.new-course.ensures.left in
    record {
      reached = λ known own.
          at_first _ _ _ _ _ _ _ left
          (begin stage.rules (played stage.rules (stage.state c.args.stage.now) c.args.text.now)
          (scene stage.rules (g.O.Sink.view c.args.sink.now).written (stage.state c.args.stage.now) (stage.faults c.args.stage.now c.args.devices.now)));
      numbered = omega (arith, ap length c.new-course.ensures.rest);
      later = omega arith;
      sound = c.requires.sound;
      own = λ known own. own;
      home = c.requires.home;
      devices_later = omega arith;
      failed_later = λ n. omega arith;
      asked = λ front first. first;
    }

pub returns-in-Over-clause-ended : goal.returns-in-Over-clause-ended
returns-in-Over-clause-ended g c known own =
    at_end _ _ _ _ _ (at_first _ _ _ _ _ _ _ c.in-Over.ensures.follows (c.steps.invariant.reached known own))

pub returns-in-NoStep-clause-ended : goal.returns-in-NoStep-clause-ended
returns-in-NoStep-clause-ended g c known own =
    at_line _ _ _ _ _ [] (at_first _ _ _ _ _ _ _ c.in-NoStep.ensures.follows (c.steps.invariant.reached known own))

pub returns-in-NoFit-clause-ended : goal.returns-in-NoFit-clause-ended
returns-in-NoFit-clause-ended g c known own =
    let rules_of = g.T.Stage.rules in
    let step = meaning c.in-Step.step in
    let reached = at_first _ _ _ _ _ _ _ c.in-Step.ensures.follows (c.steps.invariant.reached known own) in
    let turned = c.in-NoFit.ensures.turned (played_told g.T.Stage.tells (g.T.Stage.rules.shelves (g.T.Stage.state c.args.stage.now)) (steps_of c.args.text.now) reached.front (left_in c.in-Step.after) step reached.cut known) (c.steps.invariant.own known own) in
    let here = at_step _ _ _ _ _ step (left_in c.in-Step.after) turned.0 reached in
    subst (Plays rules_of (played rules_of (g.T.Stage.state c.args.stage.now) c.args.text.now) (bad_line c.steps.number)
    (scene rules_of (g.O.Sink.view c.args.sink.now).written (g.T.Stage.state c.args.stage.now) (g.T.Stage.faults c.args.stage.now c.args.devices.now)))
    (sym turned.1) here

pub returns-in-Write-clause-ended : goal.returns-in-Write-clause-ended
unfolding halted
returns-in-Write-clause-ended g c known own =
    let step = meaning c.in-Step.step in
    let reached = at_first _ _ _ _ _ _ _ c.in-Step.ensures.follows (c.steps.invariant.reached known own) in
    let turned = c.in-Write.ensures.turned (played_told g.T.Stage.tells (g.T.Stage.rules.shelves (g.T.Stage.state c.args.stage.now)) (steps_of c.args.text.now) reached.front (left_in c.in-Step.after) step reached.cut known) (c.steps.invariant.own known own) in (
      turned.2.front,
      halted _ _ _ _ _ _ step (left_in c.in-Step.after) turned.0 turned.1 reached
          turned.2.front turned.2.rest turned.2.is turned.2.written,
      turned.2.some,
    )

pub returns-in-Halted-clause-ended : goal.returns-in-Halted-clause-ended
returns-in-Halted-clause-ended g c known own =
    let step = meaning c.in-Step.step in
    let reached = at_first _ _ _ _ _ _ _ c.in-Step.ensures.follows (c.steps.invariant.reached known own) in
    let turned = c.in-Halted.ensures.turned (played_told g.T.Stage.tells (g.T.Stage.rules.shelves (g.T.Stage.state c.args.stage.now)) (steps_of c.args.text.now) reached.front (left_in c.in-Step.after) step reached.cut known) (c.steps.invariant.own known own) in
    subst (λ (end : PlayEnd). Leaves g.T.Stage.rules (g.T.Stage.left c.play_step.new.devices)
    (played g.T.Stage.rules (g.T.Stage.state c.args.stage.now) c.args.text.now) end
    (scene g.T.Stage.rules (g.O.Sink.view c.args.sink.now).written (g.T.Stage.state c.args.stage.now) (g.T.Stage.faults c.args.stage.now c.args.devices.now))
    (scene g.T.Stage.rules (g.O.Sink.view c.play_step.new.sink).written (g.T.Stage.state c.play_step.new.stage) (g.T.Stage.faults c.play_step.new.stage c.play_step.new.devices)))
    (sym c.of.ensures)
    (stops _ (g.T.Stage.left c.play_step.new.devices) _ _ _ _ _ step (left_in c.in-Step.after) c.in-Halted.halt turned.0 turned.1 reached)

pub steps-preserved : goal.steps-preserved
steps-preserved g c =
    let step = meaning c.in-Step.step in
    let went = c.in-Went.ensures in
    record {
      reached = λ known own.
          let reached = at_first _ _ _ _ _ _ _ c.in-Step.ensures.follows (c.steps.invariant.reached known own) in
          let turned = went.turned (played_told g.T.Stage.tells (g.T.Stage.rules.shelves (g.T.Stage.state c.args.stage.now)) (steps_of c.args.text.now) reached.front (left_in c.in-Step.after) step reached.cut known) (c.steps.invariant.own known own) in
          at_number _ _ _ _ _ _ _ _ c.lines-number.ensures
          (one_more _ _ _ _ _ _ step (left_in c.in-Step.after) turned.0 turned.1 reached turned.2);
      numbered = omega (arith, c.in-Step.ensures.lines, c.lines-number.ensures);
      later = omega (arith, went.later);
      sound = went.sound;
      own = λ known own.
          let reached = at_first _ _ _ _ _ _ _ c.in-Step.ensures.follows (c.steps.invariant.reached known own) in
          went.own (played_told g.T.Stage.tells (g.T.Stage.rules.shelves (g.T.Stage.state c.args.stage.now)) (steps_of c.args.text.now) reached.front (left_in c.in-Step.after) step reached.cut known) (c.steps.invariant.own known own);
      home = went.home;
      devices_later = omega (arith, went.devices_later);
      failed_later = λ n. (let a = c.steps.invariant.failed_later n in let b = went.failed_later n in omega (arith, a, b));
      asked = λ front first. went.asked front (c.steps.invariant.asked front first);
    }

pub steps-smaller : goal.steps-smaller
steps-smaller g c = omega (arith, ap length c.in-Step.ensures.follows)

pub returns-in-NoFit-clause-own : goal.returns-in-NoFit-clause-own
returns-in-NoFit-clause-own g c known own =
    let reached = at_first _ _ _ _ _ _ _ c.in-Step.ensures.follows (c.steps.invariant.reached known own) in
    c.in-NoFit.ensures.own (played_told g.T.Stage.tells (g.T.Stage.rules.shelves (g.T.Stage.state c.args.stage.now)) (steps_of c.args.text.now) reached.front (left_in c.in-Step.after) (meaning c.in-Step.step) reached.cut known) (c.steps.invariant.own known own)

pub returns-in-Write-clause-own : goal.returns-in-Write-clause-own
returns-in-Write-clause-own g c known own =
    let reached = at_first _ _ _ _ _ _ _ c.in-Step.ensures.follows (c.steps.invariant.reached known own) in
    c.in-Write.ensures.own (played_told g.T.Stage.tells (g.T.Stage.rules.shelves (g.T.Stage.state c.args.stage.now)) (steps_of c.args.text.now) reached.front (left_in c.in-Step.after) (meaning c.in-Step.step) reached.cut known) (c.steps.invariant.own known own)

pub returns-in-Halted-clause-own : goal.returns-in-Halted-clause-own
returns-in-Halted-clause-own g c known own =
    let reached = at_first _ _ _ _ _ _ _ c.in-Step.ensures.follows (c.steps.invariant.reached known own) in
    c.in-Halted.ensures.own (played_told g.T.Stage.tells (g.T.Stage.rules.shelves (g.T.Stage.state c.args.stage.now)) (steps_of c.args.text.now) reached.front (left_in c.in-Step.after) (meaning c.in-Step.step) reached.cut known) (c.steps.invariant.own known own)
