use Rattle.journal_spec.proofs.Writing as laws
use Rattle.journal_spec.proofs.compaction_is_written.Goals as goal

pub returns : goal.returns
returns c = laws.compaction_written
