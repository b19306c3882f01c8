use Rattle.xexpr_page.proofs.Inside as inside
use Rattle.xexpr_page.proofs.laws.attributes_stay_inside.Goals as goal

pub returns : goal.returns
returns c = inside.attributes_inside
