use Rattle.machine_states.proofs.Unbound.{none_is_unbound}
use Rattle.machine_states.proofs.no_cell_is_unbound.Goals as goal

pub returns : goal.returns
returns c = none_is_unbound
