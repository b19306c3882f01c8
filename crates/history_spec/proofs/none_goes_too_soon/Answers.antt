use Rattle.history_spec.proofs.Room as laws
use Rattle.history_spec.proofs.none_goes_too_soon.Goals as goal

pub returns : goal.returns
returns c = laws.none_too_soon
