use Rattle.history_spec.proofs.Going as laws
use Rattle.history_spec.proofs.one_entry_is_a_step.Goals as goal

pub returns : goal.returns
returns c = laws.is_step
