use Rattle.journal_spec.proofs.Feeding as laws
use Rattle.journal_spec.proofs.one_body_more.Goals as goal

pub returns : goal.returns
returns c = laws.one_more
