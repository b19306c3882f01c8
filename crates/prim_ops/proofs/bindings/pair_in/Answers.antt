use Rattle.std.proofs.Common.{arith}
use Rattle.prim_ops.proofs.Pairs.{no_pair}
use Rattle.prim_ops.proofs.bindings.pair_in.Goals as goal

pub returns-in-len1 : goal.returns-in-len1
returns-in-len1 c = no_pair c.args.values.now (λ e. omega (arith, c.in-len1.len_below))

pub returns-in-len3-up : goal.returns-in-len3-up
returns-in-len3-up c = no_pair c.args.values.now (λ e. omega (arith, c.in-len3-up.len_at_least))
