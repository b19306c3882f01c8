use Rattle.std.proofs.Common.{sym}
use Rattle.prim_spec.proofs.Tests.{equal_is_same}
use Rattle.prim_ops.proofs.kinds.same.Goals as goal

pub returns : goal.returns
returns c = sym (equal_is_same _ _ _ c.equal.ensures)
