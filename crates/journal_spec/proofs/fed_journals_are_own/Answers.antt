use Rattle.journal_spec.proofs.Feeding as laws
use Rattle.journal_spec.proofs.fed_journals_are_own.Goals as goal

pub returns : goal.returns
returns c = laws.fed_own c.records_are_exact.ensures
