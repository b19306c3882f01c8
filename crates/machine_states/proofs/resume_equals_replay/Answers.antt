use Rattle.machine_states.proofs.Law.{resume_is}
use Rattle.machine_states.proofs.resume_equals_replay.Goals as goal

pub returns : goal.returns
returns c = resume_is
