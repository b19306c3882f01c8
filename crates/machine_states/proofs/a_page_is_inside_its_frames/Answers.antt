use Rattle.machine_states.proofs.Law.{page_is_inside}
use Rattle.machine_states.proofs.a_page_is_inside_its_frames.Goals as goal

pub returns : goal.returns
returns c = page_is_inside
