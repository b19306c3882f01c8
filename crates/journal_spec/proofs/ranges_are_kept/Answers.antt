use Rattle.journal_spec.proofs.Ranges as laws
use Rattle.journal_spec.proofs.ranges_are_kept.Goals as goal

pub returns : goal.returns
returns c = laws.ranges_kept
