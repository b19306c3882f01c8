use Rattle.frame_codec.proofs.Firsts.{fronts_join}
use Rattle.frame_codec.proofs.fronts_join.Goals as goal

pub returns : goal.returns
returns c = fronts_join
