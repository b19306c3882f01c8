use Rattle.page_follower.proofs.Ordered.{makes_book}
use Rattle.page_follower.proofs.following.follow.Goals as goal

pub returns-then-follows-clause-book : goal.returns-then-follows-clause-book
returns-then-follows-clause-book g c = λ told can. makes_book g.D.Disk.view g.D.Disk.tells c.follow_on.new.shelf can (c.follow_on.ensures.in_order can) told

pub returns-else-follows-clause-book : goal.returns-else-follows-clause-book
returns-else-follows-clause-book g c = λ told can. makes_book g.D.Disk.view g.D.Disk.tells c.args.shelf.now can (c.requires.in_order can) told
