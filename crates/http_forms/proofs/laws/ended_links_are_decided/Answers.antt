use Rattle.http_forms.proofs.Decisions.{ended_links_are_decided}
use Rattle.http_forms.proofs.laws.ended_links_are_decided.Goals as goal

pub returns : goal.returns
returns c = ended_links_are_decided
