use Rattle.page_follower.proofs.Moments.{acknowledged_records_are_held}
use Rattle.page_follower.proofs.acknowledged_records_are_held.Goals as goal

pub returns : goal.returns
returns g c = λ told. acknowledged_records_are_held g.D.Disk.view g.met.D.Disk.only_now g.met.D.Disk.counts_now
