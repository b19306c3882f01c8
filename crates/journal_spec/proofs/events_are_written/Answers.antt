use Rattle.journal_spec.proofs.Events as laws
use Rattle.journal_spec.proofs.events_are_written.Goals as goal

pub returns : goal.returns
returns c = laws.written
