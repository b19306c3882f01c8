use Rattle.audit_spec.proofs.HonestCopies as laws
use Rattle.audit_spec.proofs.compacted_journals_pass.Goals as goal

pub returns : goal.returns
returns c = laws.copies_pass c.records_are_exact.ensures
