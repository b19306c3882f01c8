use Rattle.machine_states.proofs.Law.{start_is}
use Rattle.machine_states.proofs.a_start_is_a_run.Goals as goal

pub returns : goal.returns
returns c = start_is
