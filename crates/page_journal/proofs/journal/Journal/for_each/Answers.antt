use Rattle.std.proofs.Common.{length, ap, arith}
use Rattle.page_journal.proofs.Takings.{settled_holds}
use Rattle.page_journal.proofs.journal.Journal.for_each.Goals as goal

pub hand_on-requires-clause-holds : goal.hand_on-requires-clause-holds
hand_on-requires-clause-holds g c = λ told. settled_holds g.D.Disk.view c.args.self.now (c.requires.settled told)

pub hand_on-requires-clause-len : goal.hand_on-requires-clause-len
hand_on-requires-clause-len g c = λ told. let settled = c.requires.settled told in omega (arith, settled.end, ap length settled.file)
