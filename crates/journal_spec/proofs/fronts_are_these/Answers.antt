use Rattle.journal_spec.proofs.Fronts as laws
use Rattle.journal_spec.proofs.fronts_are_these.Goals as goal

pub returns : goal.returns
returns c = laws.fronts_are c.records_are_exact.ensures
