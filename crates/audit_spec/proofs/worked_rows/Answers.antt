use Rattle.audit_spec.proofs.Rows as laws
use Rattle.audit_spec.proofs.worked_rows.Goals as goal

pub returns : goal.returns
returns c = laws.rows
