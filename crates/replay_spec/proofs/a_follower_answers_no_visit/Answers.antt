use Rattle.replay_spec.proofs.Following as laws
use Rattle.replay_spec.proofs.a_follower_answers_no_visit.Goals as goal

pub returns : goal.returns
returns c = laws.answers_no_visit
