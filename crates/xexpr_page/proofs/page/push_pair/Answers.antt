use Rattle.std.proofs.Common.{arith}
use Rattle.xexpr_page.proofs.Pushed.{no_pair}
use Rattle.xexpr_page.proofs.page.push_pair.Goals as goal

pub returns-in-len1 : goal.returns-in-len1
returns-in-len1 c = no_pair c.args.pair.now (λ e. omega (arith, c.in-len1.len_below))

pub returns-in-len3-up : goal.returns-in-len3-up
returns-in-len3-up c = no_pair c.args.pair.now (λ e. omega (arith, c.in-len3-up.len_at_least))
