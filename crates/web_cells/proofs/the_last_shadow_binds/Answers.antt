use Rattle.web_cells.proofs.Shadowed as laws
use Rattle.web_cells.proofs.the_last_shadow_binds.Goals as goal

pub returns : goal.returns
returns c = laws.last_binds
