use Rattle.journal_spec.proofs.Fitting as laws
use Rattle.journal_spec.proofs.bodies_of_any_format_fit.Goals as goal

pub returns : goal.returns
returns c = laws.any_fit c.records_are_exact.ensures
