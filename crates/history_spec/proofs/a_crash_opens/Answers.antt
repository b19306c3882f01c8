use Rattle.history_spec.proofs.Keeping as laws
use Rattle.history_spec.proofs.a_crash_opens.Goals as goal

pub returns : goal.returns
returns c = laws.crash_opens
