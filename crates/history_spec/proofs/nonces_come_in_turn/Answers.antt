use Rattle.history_spec.proofs.Nonces as laws
use Rattle.history_spec.proofs.nonces_come_in_turn.Goals as goal

pub returns : goal.returns
returns c = laws.nonces_in_turn
