use Rattle.core_syntax.proofs.Lays.{value_from-meaning}
use Rattle.core_syntax.proofs.layout.lay_literal.Goals as goal

pub returns : goal.returns
returns c = rw (value_from-meaning c.args.value.now, ← c.in_ok-try_clone.ensures) c.push.ensures
