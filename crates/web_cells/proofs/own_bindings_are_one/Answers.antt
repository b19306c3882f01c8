use Rattle.web_cells.proofs.Owned as laws
use Rattle.web_cells.proofs.own_bindings_are_one.Goals as goal

pub returns : goal.returns
returns c = laws.are_one
