use Rattle.measured_run.proofs.Reading.{is_setup}
use Rattle.measured_run.proofs.setup.the_text_is_a_setup.Goals as goal

pub returns : goal.returns
returns c = is_setup
