use Rattle.journal_spec.proofs.Events as laws
use Rattle.journal_spec.proofs.bodies_grow.Goals as goal

pub returns : goal.returns
returns c = laws.grow
