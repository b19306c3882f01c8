use Rattle.journal_spec.proofs.Standings as laws
use Rattle.journal_spec.proofs.recoveries_find_one.Goals as goal

pub returns : goal.returns
returns g c = λ told texts shelf disk m. (
  λ makes. laws.one_found texts shelf (g.D.Disk.view disk) m (g.met.D.Disk.reads_image disk told) makes,
  λ scripts opened. laws.one_of texts shelf scripts (g.D.Disk.view disk) m (g.met.D.Disk.reads_image disk told) opened,
)
