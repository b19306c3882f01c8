use Rattle.replay_spec.proofs.Following as laws
use Rattle.replay_spec.proofs.no_other_follows.Goals as goal

pub returns : goal.returns
returns c = laws.no_other
