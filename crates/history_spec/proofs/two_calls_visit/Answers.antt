use Rattle.history_spec.proofs.Passing as laws
use Rattle.history_spec.proofs.two_calls_visit.Goals as goal

pub returns : goal.returns
returns c = laws.visits
