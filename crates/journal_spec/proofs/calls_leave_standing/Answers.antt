use Rattle.journal_spec.proofs.Standings as laws
use Rattle.journal_spec.proofs.calls_leave_standing.Goals as goal

pub returns : goal.returns
returns g c = λ texts shelf n before after b old new run first second.
    laws.left_standing texts shelf n before after b (g.D.Disk.view old) (g.D.Disk.view new) (g.met.D.Disk.counts_now new) run first second
