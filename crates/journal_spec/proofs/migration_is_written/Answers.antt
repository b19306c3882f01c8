use Rattle.journal_spec.proofs.Migrating as laws
use Rattle.journal_spec.proofs.migration_is_written.Goals as goal

pub returns : goal.returns
returns c = laws.migration_written
