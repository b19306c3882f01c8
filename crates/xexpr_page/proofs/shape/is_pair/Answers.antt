use Rattle.std.proofs.Common.{arith, refl}
use Rattle.xexpr_page.proofs.Pushed.{no_pair}
use Rattle.xexpr_page.proofs.shape.is_pair.Goals as goal

pub returns-in-len1 : goal.returns-in-len1
returns-in-len1 c = rw (no_pair c.args.pair.now (λ e. omega (arith, c.in-len1.len_below))) refl

pub returns-in-len3-up : goal.returns-in-len3-up
returns-in-len3-up c = rw (no_pair c.args.pair.now (λ e. omega (arith, c.in-len3-up.len_at_least))) refl
