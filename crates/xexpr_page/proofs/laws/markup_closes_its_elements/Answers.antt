use Rattle.xexpr_page.proofs.Closed.{markup_closes}
use Rattle.xexpr_page.proofs.laws.markup_closes_its_elements.Goals as goal

pub returns : goal.returns
returns c = markup_closes
