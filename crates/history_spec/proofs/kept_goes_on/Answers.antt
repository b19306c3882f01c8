use Rattle.history_spec.proofs.Keeping as laws
use Rattle.history_spec.proofs.kept_goes_on.Goals as goal

pub returns : goal.returns
returns c = laws.kept_on
