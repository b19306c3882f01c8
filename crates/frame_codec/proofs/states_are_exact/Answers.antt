use Rattle.frame_codec.proofs.States as states
use Rattle.frame_codec.proofs.states_are_exact.Goals as goal

pub returns : goal.returns
returns c = states.states_are_exact
