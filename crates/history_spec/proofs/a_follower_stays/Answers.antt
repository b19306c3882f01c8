use Rattle.history_spec.proofs.Following as laws
use Rattle.history_spec.proofs.a_follower_stays.Goals as goal

pub returns : goal.returns
returns c = laws.follower_stays
