use Rattle.std.proofs.Common.{rules, ◌≡◌, ap, arith, Err}
use Rattle.server_limits.specs.Limits.{most_connections, most_requests}
use Rattle.server_limits.specs.Counts.{most_workers}
use Rattle.command_words.proofs.Reading.{same_error}
use Rattle.command_words.proofs.service_of.Goals as goal

pub returns-in_err-options_of-clause-refused : goal.returns-in_err-options_of-clause-refused
returns-in_err-options_of-clause-refused c =
    let is : c.from_residual.result ≡ Err c.in_err-options_of.field-0.0 = search rules in
    λ usage held. c.in_err-options_of.ensures.refused (ap (λ x. Err x) (same_error _ _ _ is usage)) (held.0, (held.1.0, (held.1.1.0, (held.1.1.1.0, (held.1.1.1.1.0, (held.1.1.1.1.1.0, tt))))))

pub returns-in_err-port_number-clause-refused : goal.returns-in_err-port_number-clause-refused
returns-in_err-port_number-clause-refused c = λ usage held. c.in_err-port_number.ensures.refused 0 65535 (omega arith) held.1.1.1.1.1.1.0

pub returns-in_err-number-clause-refused : goal.returns-in_err-number-clause-refused
returns-in_err-number-clause-refused c = λ usage held. c.in_err-number.ensures.refused 1 most_connections (omega arith) held.1.1.1.1.1.1.1.0

pub returns-in_err-short_number-clause-refused : goal.returns-in_err-short_number-clause-refused
returns-in_err-short_number-clause-refused c = λ usage held. c.in_err-short_number.ensures.refused 1 most_workers (omega arith) held.1.1.1.1.1.1.1.1.0

pub returns-in_err-short_number-2-clause-refused : goal.returns-in_err-short_number-2-clause-refused
returns-in_err-short_number-2-clause-refused c = λ usage held. c.in_err-short_number-2.ensures.refused 1 most_requests (omega arith) held.1.1.1.1.1.1.1.1.1.0
