use Rattle.journal_spec.proofs.Kept as laws
use Rattle.journal_spec.proofs.fresh_journals_are_kept.Goals as goal

pub returns : goal.returns
returns c = laws.fresh_kept c.records_are_exact.ensures
