use Rattle.history_spec.proofs.Numbers as laws
use Rattle.history_spec.proofs.histories_are_runs.Goals as goal

pub returns : goal.returns
returns c = laws.are_runs
