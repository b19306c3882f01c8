use Rattle.std.proofs.Common.{◌∙◌}
use Rattle.shelf.proofs.Moving.{anew_some}
use Rattle.shelf.proofs.migration.bodies_anew.Goals as goal

pub returns-in_default : goal.returns-in_default
returns-in_default c = c.as_slice-in_default.ensures.value ∙ anew_some c.args.read.now.found c.args.read.now.anew.items c.in_default.not-Nothing
