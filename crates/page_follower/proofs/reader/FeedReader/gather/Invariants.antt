use Rattle.std.proofs.Common.{◌≤◌, ◌-◌, vec_len}
use Rattle.page_follower.specs.Reading.{Got}
use Rattle.page_follower.proofs.reader.FeedReader.gather.Given as goal

abbrev pub invariant-loop-piece : goal.invariant-loop-piece
invariant-loop-piece g l = record {
  got : Got (g.S.Source.view l.fn.source) (g.S.Source.view l.source) l.fn.self.place l.self.place l.body.items;
  within : vec_len l.body ≤ l.size;
}

abbrev pub decreases-loop-piece : goal.decreases-loop-piece
decreases-loop-piece g l = l.size - vec_len l.body
