use Rattle.shelf.proofs.Crashes.{standing_opens}
use Rattle.shelf.proofs.a_standing_disk_opens.Goals as goal

pub returns : goal.returns
returns g c = λ told. standing_opens g.D.Disk.view (λ disk. g.met.D.Disk.reads_image disk told)
