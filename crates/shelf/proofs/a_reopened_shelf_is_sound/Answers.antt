use Rattle.shelf.proofs.Crashes.{reopened_is_sound}
use Rattle.shelf.proofs.a_reopened_shelf_is_sound.Goals as goal

pub returns : goal.returns
returns g c = reopened_is_sound g.D.Disk.view
