use Rattle.web_cells.proofs.Shadowed as laws
use Rattle.web_cells.proofs.shadows_rise.Goals as goal

pub returns : goal.returns
returns c = laws.rise
