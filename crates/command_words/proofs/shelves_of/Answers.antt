use Rattle.std.proofs.Common.{rules, ◌≡◌, ap, arith, Err}
use Rattle.server_limits.specs.Limits.{most_shelves}
use Rattle.command_words.proofs.Reading.{same_error}
use Rattle.command_words.proofs.shelves_of.Goals as goal

pub returns-in_err-text-clause-refused : goal.returns-in_err-text-clause-refused
returns-in_err-text-clause-refused c =
    let is : c.from_residual.result ≡ Err c.in_err-text.field-0.0 = search rules in
    λ usage held. c.in_err-text.ensures.refused (ap (λ x. Err x) (same_error _ _ _ is usage)) held.0

pub returns-in_err-short_number-clause-refused : goal.returns-in_err-short_number-clause-refused
returns-in_err-short_number-clause-refused c = λ usage held. c.in_err-short_number.ensures.refused 1 most_shelves (omega arith) held.1.0
