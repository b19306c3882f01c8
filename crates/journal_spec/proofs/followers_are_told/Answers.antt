use Rattle.journal_spec.proofs.Unfed as laws
use Rattle.journal_spec.proofs.followers_are_told.Goals as goal

pub returns : goal.returns
returns c = laws.followers_told c.records_are_exact.ensures
