use Rattle.audit_spec.proofs.GoingOn as laws
use Rattle.audit_spec.proofs.audited_journals_go_on.Goals as goal

pub returns : goal.returns
returns c = laws.go_on c.records_are_exact.ensures
