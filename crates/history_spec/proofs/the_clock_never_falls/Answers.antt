use Rattle.history_spec.proofs.Behind as laws
use Rattle.history_spec.proofs.the_clock_never_falls.Goals as goal

pub returns : goal.returns
returns c = laws.never_back
