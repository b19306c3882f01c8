use Rattle.journal_spec.proofs.Spelled as laws
use Rattle.journal_spec.proofs.what_is_recorded_is_spelled.Goals as goal

pub returns : goal.returns
returns c = laws.recorded_spelled
