use Rattle.journal_spec.proofs.Kept as laws
use Rattle.journal_spec.proofs.runs_are_kept.Goals as goal

pub returns : goal.returns
returns c = laws.run_kept c.records_are_exact.ensures
