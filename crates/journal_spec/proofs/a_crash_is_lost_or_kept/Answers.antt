use Rattle.journal_spec.proofs.Between as laws
use Rattle.journal_spec.proofs.a_crash_is_lost_or_kept.Goals as goal

pub returns : goal.returns
returns c = laws.lost_or_kept
