use Rattle.history_spec.proofs.Passing as laws
use Rattle.history_spec.proofs.seen_stays.Goals as goal

pub returns : goal.returns
returns c = laws.stays
