use Rattle.journal_spec.proofs.Rewriting as laws
use Rattle.journal_spec.proofs.copies_are_own.Goals as goal

pub returns : goal.returns
returns c = laws.copies_own c.records_are_exact.ensures
