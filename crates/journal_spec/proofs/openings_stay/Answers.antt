use Rattle.journal_spec.proofs.Standings as laws
use Rattle.journal_spec.proofs.openings_stay.Goals as goal

pub returns : goal.returns
returns g c = λ texts shelf scripts old mid stays. (
  laws.recovery_opens texts shelf scripts (g.D.Disk.view old) (g.D.Disk.view mid) (g.met.D.Disk.counts_now mid) stays,
  λ b new found throughout. laws.opening_stays texts shelf scripts (g.D.Disk.view old) (g.D.Disk.view mid) (g.D.Disk.view new) b (g.met.D.Disk.counts_now new) stays found throughout,
)
