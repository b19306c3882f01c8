use Rattle.history_spec.proofs.Keeping as laws
use Rattle.history_spec.proofs.what_is_left_opens.Goals as goal

pub returns : goal.returns
returns c = laws.left_opens
