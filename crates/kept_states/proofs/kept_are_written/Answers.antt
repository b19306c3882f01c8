use Rattle.kept_states.proofs.Written.{are_written}
use Rattle.kept_states.proofs.kept_are_written.Goals as goal

pub returns : goal.returns
returns c = are_written
