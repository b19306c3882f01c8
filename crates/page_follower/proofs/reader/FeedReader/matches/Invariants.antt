use Rattle.std.proofs.Common.{◌-◌}
use Rattle.page_follower.proofs.Comparing.{Compared}
use Rattle.page_follower.proofs.reader.FeedReader.matches.Given as goal

abbrev pub invariant-loop-done : goal.invariant-loop-done
invariant-loop-done g l = Compared (g.S.Source.view l.fn.source) (g.S.Source.view l.source) l.fn.self.place l.self.place l.size l.held l.done l.same

abbrev pub decreases-loop-done : goal.decreases-loop-done
decreases-loop-done g l = l.size - l.done
