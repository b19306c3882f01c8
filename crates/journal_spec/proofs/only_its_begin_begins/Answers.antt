use Rattle.journal_spec.proofs.Fitting as laws
use Rattle.journal_spec.proofs.only_its_begin_begins.Goals as goal

pub returns : goal.returns
returns c = laws.only_begin
