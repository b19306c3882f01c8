use Rattle.history_spec.proofs.Spending as laws
use Rattle.history_spec.proofs.each_publish_has_its_take.Goals as goal

pub returns : goal.returns
returns c = laws.has_take
