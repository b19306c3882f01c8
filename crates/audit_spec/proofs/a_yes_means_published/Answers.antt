use Rattle.audit_spec.proofs.Lawful as laws
use Rattle.audit_spec.proofs.a_yes_means_published.Goals as goal

pub returns : goal.returns
returns c = laws.yes_means c.records_are_exact.ensures
