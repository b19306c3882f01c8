use Rattle.journal_spec.proofs.Kept as laws
use Rattle.journal_spec.proofs.renewals_are_kept.Goals as goal

pub returns : goal.returns
returns c = laws.renewed_kept c.records_are_exact.ensures
