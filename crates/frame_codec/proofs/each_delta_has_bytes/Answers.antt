use Rattle.frame_codec.proofs.Differences.{each_has_bytes}
use Rattle.frame_codec.proofs.each_delta_has_bytes.Goals as goal

pub returns : goal.returns
returns c = each_has_bytes
