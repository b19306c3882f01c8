use Rattle.history_spec.proofs.Behind as laws
use Rattle.history_spec.proofs.closed_is_closed.Goals as goal

pub returns : goal.returns
returns c = laws.closed
