use Rattle.journal_spec.proofs.Setups as laws
use Rattle.journal_spec.proofs.crashes_open.Goals as goal

pub returns : goal.returns
returns c = laws.crashes
