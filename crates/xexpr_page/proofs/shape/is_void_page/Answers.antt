use Rattle.std.proofs.Common.{refl}
use Rattle.xexpr_page.proofs.Pushed.{void_none}
use Rattle.xexpr_page.proofs.shape.is_void_page.Goals as goal

pub returns-in-len2-up : goal.returns-in-len2-up
returns-in-len2-up c = rw (void_none c.args.name.now c.args.parts.now c.in-len2-up.len_at_least) refl
