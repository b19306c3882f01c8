use Rattle.audit_spec.proofs.HonestOn as laws
use Rattle.audit_spec.proofs.added_records_pass.Goals as goal

pub returns : goal.returns
returns c = laws.added_pass c.records_are_exact.ensures
