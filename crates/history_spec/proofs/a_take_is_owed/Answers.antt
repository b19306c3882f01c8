use Rattle.history_spec.proofs.Passing as laws
use Rattle.history_spec.proofs.a_take_is_owed.Goals as goal

pub returns : goal.returns
returns c = laws.owed
