use Rattle.replay_spec.proofs.Marked as laws
use Rattle.replay_spec.proofs.marks_are_uses.Goals as goal

pub returns : goal.returns
returns c = laws.marked
