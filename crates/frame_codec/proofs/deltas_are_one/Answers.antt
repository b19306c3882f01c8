use Rattle.frame_codec.proofs.Differences.{are_one}
use Rattle.frame_codec.proofs.deltas_are_one.Goals as goal

pub returns : goal.returns
returns c = are_one
