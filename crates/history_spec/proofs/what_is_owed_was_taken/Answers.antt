use Rattle.history_spec.proofs.Admitting as laws
use Rattle.history_spec.proofs.what_is_owed_was_taken.Goals as goal

pub returns : goal.returns
returns c = laws.owed_taken
