use Rattle.std.proofs.Common.{◌∙◌, ap, drop}
use Rattle.std.proofs.lemmas.List.{drop-drop}
use Rattle.core_syntax.proofs.names.Names.leave.Goals as goal

pub loop-preserved : goal.loop-preserved
loop-preserved c = c.leave_one.ensures ∙ (ap (drop 1) c.loop.invariant ∙ drop-drop 1 c.loop.counter c.args.self.now)
