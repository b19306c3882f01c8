use Rattle.shelf.proofs.Crashes.{reopened_has_crashed}
use Rattle.shelf.proofs.a_reopened_shelf_has_crashed.Goals as goal

pub returns : goal.returns
returns g c = reopened_has_crashed g.D.Disk.view
