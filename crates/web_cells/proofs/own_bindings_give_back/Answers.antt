use Rattle.web_cells.proofs.Owned as laws
use Rattle.web_cells.proofs.own_bindings_give_back.Goals as goal

pub returns : goal.returns
returns c = laws.give_back
