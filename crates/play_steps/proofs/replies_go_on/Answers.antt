use Rattle.play_steps.proofs.Goes as laws
use Rattle.play_steps.proofs.replies_go_on.Goals as goal

pub returns : goal.returns
returns g c = laws.replies_go_on g.T.Stage.rules
