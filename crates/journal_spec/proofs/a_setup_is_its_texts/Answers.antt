use Rattle.journal_spec.proofs.Setups as laws
use Rattle.journal_spec.proofs.a_setup_is_its_texts.Goals as goal

pub returns : goal.returns
returns c = laws.its_texts
