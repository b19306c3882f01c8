use Rattle.std.proofs.Common.{sym}
use Rattle.prim_spec.proofs.Tests.{empty_list}
use Rattle.prim_ops.proofs.kinds.is_empty_list.Goals as goal

pub returns : goal.returns
returns c = sym (empty_list _ _ c.is_empty.ensures)
