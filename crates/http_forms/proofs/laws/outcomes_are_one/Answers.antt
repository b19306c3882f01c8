use Rattle.http_forms.proofs.Decisions.{outcomes_are_one}
use Rattle.http_forms.proofs.laws.outcomes_are_one.Goals as goal

pub returns : goal.returns
returns c = outcomes_are_one
