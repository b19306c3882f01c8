use Rattle.std.proofs.Common.{rules, ◌≡◌, ap, arith, Err}
use Rattle.command_words.specs.Options.{most_run}
use Rattle.command_words.proofs.Reading.{same_error}
use Rattle.command_words.proofs.load_of.Goals as goal

pub returns-in_err-number-clause-refused : goal.returns-in_err-number-clause-refused
returns-in_err-number-clause-refused c = λ usage held. c.in_err-number.ensures.refused 1 most_run (omega arith) held.0

pub returns-in_err-options_of-clause-refused : goal.returns-in_err-options_of-clause-refused
returns-in_err-options_of-clause-refused c =
    let is : c.from_residual-in_err-options_of.result ≡ Err c.in_err-options_of.field-0.0 = search rules in
    λ usage held. c.in_err-options_of.ensures.refused (ap (λ x. Err x) (same_error _ _ _ is usage)) held.1
