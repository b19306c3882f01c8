use Rattle.machine_states.proofs.Visiting.{visit_goes_on}
use Rattle.machine_states.proofs.a_visit_goes_on.Goals as goal

pub returns : goal.returns
returns c = visit_goes_on
