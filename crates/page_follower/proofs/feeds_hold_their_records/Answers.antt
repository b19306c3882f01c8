use Rattle.page_follower.proofs.Feeds.{feeds_hold_their_records}
use Rattle.page_follower.proofs.feeds_hold_their_records.Goals as goal

pub returns : goal.returns
returns c = feeds_hold_their_records
