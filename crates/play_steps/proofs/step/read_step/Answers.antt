use Rattle.std.proofs.Common.{rules, ◌≡◌}
use Rattle.std.specs.Prelude.{option_map}
use Rattle.play_steps.specs.Step as spec
use Rattle.play_steps.specs.Views.{step_found}
use Rattle.play_steps.proofs.Spelled.{read_range, read_within}
use Rattle.play_steps.proofs.step.read_step.Goals as goal

pub returns-in-Some-clause-range : goal.returns-in-Some-clause-range
unfolding spec.first_step
returns-in-Some-clause-range c =
    let spelled : option_map step_found c.edit_with.result ≡ spec.first_step c.args.bytes.now = search rules in
    read_range c.args.bytes.now c.edit_with.result spelled

pub returns-in-Some-clause-within : goal.returns-in-Some-clause-within
unfolding spec.first_step
returns-in-Some-clause-within c =
    let spelled : option_map step_found c.edit_with.result ≡ spec.first_step c.args.bytes.now = search rules in
    read_within c.args.bytes.now c.edit_with.result spelled
