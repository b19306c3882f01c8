use Rattle.page_follower.proofs.Feeds.{cut_feeds_hold_the_first}
use Rattle.page_follower.proofs.cut_feeds_hold_the_first.Goals as goal

pub returns : goal.returns
returns c = cut_feeds_hold_the_first
