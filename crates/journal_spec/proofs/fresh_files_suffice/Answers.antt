use Rattle.journal_spec.proofs.Fresh as laws
use Rattle.journal_spec.proofs.fresh_files_suffice.Goals as goal

pub returns : goal.returns
returns c = laws.fresh_suffice
