use Rattle.std.proofs.Common.{arith}
use Rattle.std.proofs.lemmas.Int.Digits.{digits_value_more}
use Rattle.page_names.proofs.hexadecimal.number.Goals as goal

pub loop-digit-preserved : goal.loop-digit-preserved
loop-digit-preserved c =
    let more = digits_value_more 16 c.args.digits.now c.loop-digit.digit-index c.loop-digit-test.true in
    omega (arith, more, c.saturating_add-number.ensures, c.saturating_mul.ensures, c.value_of.ensures, c.loop-digit.invariant)
