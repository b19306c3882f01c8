use Rattle.std.proofs.Common.{◌∙◌, ap}
use Rattle.audit_spec.specs.Tests.{are_numbers}
use Rattle.record_audit.proofs.Compared.{numbers_test}
use Rattle.record_audit.proofs.checks.are_least.Goals as goal

pub returns : goal.returns
returns c =
    let gone = c.args.gone.now in
    c.eq.ensures ∙ (numbers_test gone c.as_slice.result.now ∙ ap (are_numbers gone) (c.as_slice.ensures.value ∙ c.in_ok-least.ensures))
