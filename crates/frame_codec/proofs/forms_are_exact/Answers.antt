use Rattle.frame_codec.proofs.Formed as laws
use Rattle.frame_codec.proofs.forms_are_exact.Goals as goal

pub returns : goal.returns
returns c = laws.forms_are_exact
