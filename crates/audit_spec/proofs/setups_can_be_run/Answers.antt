use Rattle.audit_spec.proofs.Runnable as laws
use Rattle.audit_spec.proofs.setups_can_be_run.Goals as goal

pub returns : goal.returns
returns c = laws.can_be_run
