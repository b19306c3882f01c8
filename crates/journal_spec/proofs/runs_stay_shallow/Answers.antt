use Rattle.journal_spec.proofs.Runs as laws
use Rattle.journal_spec.proofs.runs_stay_shallow.Goals as goal

pub returns : goal.returns
returns c = laws.stay_shallow
