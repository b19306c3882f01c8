use Rattle.audit_spec.proofs.HonestRuns as laws
use Rattle.audit_spec.proofs.honest_journals_pass.Goals as goal

pub returns : goal.returns
returns c = laws.honest_pass
