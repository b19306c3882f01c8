use Rattle.frame_codec.proofs.Computed.{are_computed}
use Rattle.frame_codec.proofs.differences_are_computed.Goals as goal

pub returns : goal.returns
returns c = are_computed
