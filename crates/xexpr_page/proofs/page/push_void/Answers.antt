use Rattle.xexpr_page.proofs.Pushed.{void_none}
use Rattle.xexpr_page.proofs.page.push_void.Goals as goal

pub returns-in-len2-up : goal.returns-in-len2-up
returns-in-len2-up c = void_none c.args.name.now c.args.parts.now c.in-len2-up.len_at_least
