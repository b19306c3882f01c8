use Rattle.journal_spec.proofs.Fronts as laws
use Rattle.journal_spec.proofs.later_journals_are_kept.Goals as goal

pub returns : goal.returns
returns c = laws.later_kept c.records_are_exact.ensures
