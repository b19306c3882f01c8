use Rattle.std.proofs.Common.{arith}
use Rattle.http_forms.proofs.Values.{number_more}
use Rattle.http_forms.proofs.fields.number.Goals as goal

pub loop-digit-preserved : goal.loop-digit-preserved
loop-digit-preserved c =
    let more = number_more c.args.digits.now c.loop-digit.digit-index c.loop-digit-test.true c.requires in
    omega (arith, more, c.saturating_add-number.ensures, c.saturating_mul.ensures, c.saturating_sub.ensures, c.from-value.ensures, c.loop-digit.invariant)
