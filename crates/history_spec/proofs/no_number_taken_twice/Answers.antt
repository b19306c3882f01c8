use Rattle.history_spec.proofs.Twice as laws
use Rattle.history_spec.proofs.no_number_taken_twice.Goals as goal

pub returns : goal.returns
returns c = laws.not_twice
