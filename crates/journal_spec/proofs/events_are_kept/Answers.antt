use Rattle.journal_spec.proofs.Kept as laws
use Rattle.journal_spec.proofs.events_are_kept.Goals as goal

pub returns : goal.returns
returns c = laws.event_kept c.records_are_exact.ensures
