use Rattle.machine_states.proofs.Replay.{first_stop}
use Rattle.machine_states.proofs.the_first_stop_is_the_stop.Goals as goal

pub returns : goal.returns
returns c = first_stop
