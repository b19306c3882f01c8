use Rattle.http_forms.proofs.Fronts.{requests_are_fronts}
use Rattle.http_forms.proofs.laws.requests_are_fronts.Goals as goal

pub returns : goal.returns
returns c = requests_are_fronts
