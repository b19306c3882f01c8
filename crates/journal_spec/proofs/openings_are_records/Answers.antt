use Rattle.journal_spec.proofs.Openings as laws
use Rattle.journal_spec.proofs.openings_are_records.Goals as goal

pub returns : goal.returns
returns c = laws.are_records c.records_are_exact.ensures
