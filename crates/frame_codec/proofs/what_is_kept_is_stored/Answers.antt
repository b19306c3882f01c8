use Rattle.frame_codec.proofs.Kept.{each_kept}
use Rattle.frame_codec.proofs.what_is_kept_is_stored.Goals as goal

pub returns : goal.returns
returns c = each_kept
