use Rattle.std.proofs.Common.{arith}
use Rattle.http_forms.proofs.head.line_length.Goals as goal

pub returns-in-Some-clause-lacks : goal.returns-in-Some-clause-lacks
returns-in-Some-clause-lacks c = c.in-Some.ensures.0.before

pub returns-in-Some-clause-inside : goal.returns-in-Some-clause-inside
returns-in-Some-clause-inside c = omega (arith, c.in-Some.ensures.0.high)

pub returns-in-None-clause-lacks : goal.returns-in-None-clause-lacks
returns-in-None-clause-lacks c = c.in-None.ensures
