use Rattle.history_spec.proofs.Going as laws
use Rattle.history_spec.proofs.histories_go_on.Goals as goal

pub returns : goal.returns
returns c = laws.go_on
