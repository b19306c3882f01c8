use Rattle.journal_spec.proofs.Telling.{own_are_told}
use Rattle.journal_spec.proofs.own_states_are_told.Goals as goal

pub returns : goal.returns
returns c = own_are_told
