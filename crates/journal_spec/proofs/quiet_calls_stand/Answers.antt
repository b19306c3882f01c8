use Rattle.journal_spec.proofs.Standings as laws
use Rattle.journal_spec.proofs.quiet_calls_stand.Goals as goal

pub returns : goal.returns
returns g c = λ texts shelf b old new stands no_new time. (
  laws.stays_then texts shelf b (g.D.Disk.view old) (g.D.Disk.view new) (g.met.D.Disk.only_now old) stands no_new time,
  laws.stands_then texts shelf b (g.D.Disk.view old) (g.D.Disk.view new) stands no_new,
)
