use Rattle.history_spec.proofs.Passing as laws
use Rattle.history_spec.proofs.a_turn_goes.Goals as goal

pub returns : goal.returns
returns c = laws.turn
