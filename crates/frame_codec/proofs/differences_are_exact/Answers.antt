use Rattle.frame_codec.proofs.Leaving.{are_exact}
use Rattle.frame_codec.proofs.differences_are_exact.Goals as goal

pub returns : goal.returns
returns c = are_exact
