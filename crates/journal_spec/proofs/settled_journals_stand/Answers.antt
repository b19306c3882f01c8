use Rattle.journal_spec.proofs.Standings as laws
use Rattle.journal_spec.proofs.settled_journals_stand.Goals as goal

pub returns : goal.returns
returns g c = λ texts shelf journal b settled makes up. laws.settled_stands g.D.Disk.view texts shelf journal b settled makes up
