use Rattle.std.proofs.Common.{sym, map}
use Rattle.script_value.specs.Views.{meaning}
use Rattle.core_syntax.proofs.Expanding.{begins_badly}
use Rattle.core_syntax.proofs.forms.expand.Goals as goal

pub returns-in-Err-clause-table : goal.returns-in-Err-clause-table
returns-in-Err-clause-table c = rw c.at.ensures (begins_badly (map meaning c.args.forms.now) c.in-Err.kind (sym c.in-Err.ensures))
