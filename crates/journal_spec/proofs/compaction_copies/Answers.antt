use Rattle.journal_spec.proofs.Copies as laws
use Rattle.journal_spec.proofs.compaction_copies.Goals as goal

pub returns : goal.returns
returns c = laws.copies
