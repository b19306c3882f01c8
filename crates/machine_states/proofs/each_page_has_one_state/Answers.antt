use Rattle.machine_states.proofs.Law.{each_has_one}
use Rattle.machine_states.proofs.each_page_has_one_state.Goals as goal

pub returns : goal.returns
returns c = each_has_one
