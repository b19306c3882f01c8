use Rattle.book_recovery.proofs.Longer.{whole_named}
use Rattle.book_recovery.proofs.setup_scripts.is_whole.Goals as goal

pub returns : goal.returns
returns c = whole_named c.args.named.now c.root-root.ensures.script
