use Rattle.journal_spec.proofs.Feeding as laws
use Rattle.journal_spec.proofs.bodies_stand_between.Goals as goal

pub returns : goal.returns
returns c = laws.bodies_between c.records_are_exact.ensures
