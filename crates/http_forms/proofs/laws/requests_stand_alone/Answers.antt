use Rattle.http_forms.proofs.Decisions.{requests_stand_alone}
use Rattle.http_forms.proofs.laws.requests_stand_alone.Goals as goal

pub returns : goal.returns
returns c = requests_stand_alone
