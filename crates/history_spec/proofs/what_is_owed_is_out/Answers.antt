use Rattle.history_spec.proofs.Twice as laws
use Rattle.history_spec.proofs.what_is_owed_is_out.Goals as goal

pub returns : goal.returns
returns c = laws.owed_out
