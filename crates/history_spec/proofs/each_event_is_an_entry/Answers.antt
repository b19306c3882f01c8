use Rattle.history_spec.proofs.Fates as laws
use Rattle.history_spec.proofs.each_event_is_an_entry.Goals as goal

pub returns : goal.returns
returns c = laws.each_event
