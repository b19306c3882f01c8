use Rattle.std.proofs.Common.{rules, ◌≡◌, ◌<◌, ◌∷◌, length, Some, None, sym, ap, ◌∙◌, arith}
use Rattle.std.proofs.lemmas.List.{nil_from_length}
use Rattle.play_steps.specs.Step.{first_step}
use Rattle.play_steps.specs.Views.{meaning}
use Rattle.play_steps.proofs.Lines.{lines_fit}
use Rattle.play_steps.proofs.Left.{left_over, left_step, left_none}
use Rattle.play_steps.proofs.course.Course.next.Goals as goal

pub returns-then-is_empty-clause-follows : goal.returns-then-is_empty-clause-follows
returns-then-is_empty-clause-follows c =
    let short : length c.args.self.now.rest.now ≡ 0 = grind arith in
    left_over c.args.self.now (omega arith) (nil_from_length c.args.self.now.rest.now short)

pub returns-in-Some-clause-follows : goal.returns-in-Some-clause-follows
returns-in-Some-clause-follows c =
    let first : first_step c.args.self.now.rest.now ≡ Some (meaning c.in-Some.step, c.in-Some.rest.now) = search rules in
    left_step c.args.self.now (meaning c.in-Some.step) c.in-Some.rest.now (omega arith) first
    ∙ ap (λ steps. Some (meaning c.in-Some.step) ∷ steps) (sym c.past.ensures.left)

pub returns-in-Some-clause-lines : goal.returns-in-Some-clause-lines
returns-in-Some-clause-lines c =
    let first : first_step c.args.self.now.rest.now ≡ Some (meaning c.in-Some.step, c.in-Some.rest.now) = search rules in
    omega (arith, lines_fit c.args.self.now.rest.now (meaning c.in-Some.step) c.in-Some.rest.now first, ap length c.past.ensures.rest)

pub returns-in-None-clause-follows : goal.returns-in-None-clause-follows
returns-in-None-clause-follows c =
    let none : first_step c.args.self.now.rest.now ≡ None = search rules in
    let some : 0 < length c.args.self.now.rest.now = grind arith in
    left_none c.args.self.now (omega arith) none some
