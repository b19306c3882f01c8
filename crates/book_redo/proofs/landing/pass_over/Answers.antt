use Rattle.std.proofs.Common.{arith}
use Rattle.book_redo.proofs.landing.pass_over.Goals as goal

pub returns-clause-low : goal.returns-clause-low
returns-clause-low c = c.count_to.ensures.low (omega (arith, c.requires))
