use Rattle.history_spec.proofs.Passing as laws
use Rattle.history_spec.proofs.calls_compose.Goals as goal

pub returns : goal.returns
returns c = laws.compose
