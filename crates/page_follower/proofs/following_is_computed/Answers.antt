use Rattle.page_follower.proofs.Computed.{following_is_computed}
use Rattle.page_follower.proofs.following_is_computed.Goals as goal

pub returns : goal.returns
returns c = following_is_computed
