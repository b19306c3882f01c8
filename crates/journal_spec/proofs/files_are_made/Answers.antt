use Rattle.journal_spec.proofs.Files as laws
use Rattle.journal_spec.proofs.files_are_made.Goals as goal

pub returns : goal.returns
returns c = laws.files_made
