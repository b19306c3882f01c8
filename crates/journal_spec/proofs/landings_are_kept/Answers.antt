use Rattle.journal_spec.proofs.Kept as laws
use Rattle.journal_spec.proofs.landings_are_kept.Goals as goal

pub returns : goal.returns
returns c = laws.landing_kept c.records_are_exact.ensures
