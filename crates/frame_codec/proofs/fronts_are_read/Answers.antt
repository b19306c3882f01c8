use Rattle.frame_codec.proofs.Firsts.{are_read}
use Rattle.frame_codec.proofs.fronts_are_read.Goals as goal

pub returns : goal.returns
returns c = are_read
