use Rattle.journal_spec.proofs.Between as laws
use Rattle.journal_spec.proofs.compactions_stand_between.Goals as goal

pub returns : goal.returns
returns c = laws.compaction_between c.records_are_exact.ensures
