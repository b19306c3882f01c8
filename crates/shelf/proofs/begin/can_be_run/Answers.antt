use Rattle.book_recovery.proofs.Longer.{whole_named}
use Rattle.shelf.proofs.begin.can_be_run.Goals as goal

pub returns : goal.returns
returns c = whole_named c.args.named.now c.root-root.ensures.script
