use Rattle.site_serving.proofs.Following.{visits_put_off}
use Rattle.site_serving.proofs.followers_put_visits_off.Goals as goal

pub returns : goal.returns
returns g c = visits_put_off {D = g.row.D.Denot} {N = g.row.N.Denot} g.D.Disk.view g.D.Disk.tells g.N.Nonces.nonce
