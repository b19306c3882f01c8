use Rattle.journal_spec.proofs.Standings as laws
use Rattle.journal_spec.proofs.recoveries_stay.Goals as goal

pub returns : goal.returns
returns g c = λ texts shelf old new may closed either. laws.stays_by texts shelf (g.D.Disk.view old) (g.D.Disk.view new) may closed either
