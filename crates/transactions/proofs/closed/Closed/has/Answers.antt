use Rattle.std.proofs.Common.{◌∙◌, ap}
use Rattle.machine_states.specs.ReplaySpec.Names.{has}
use Rattle.transactions.proofs.closed.Closed.has.Goals as goal

pub returns : goal.returns
returns c = c.contains.ensures ∙ (c.self.invariant c.args.name.now ∙ ap (has c.args.name.now) c.self.view_is)
