use Rattle.std.proofs.Common.{◌≤◌, ◌-◌, length, take}
use Rattle.page_follower.specs.Reading.{Got}
use Rattle.page_follower.proofs.reader.FeedReader.fill.Given as goal

abbrev pub invariant-loop-done : goal.invariant-loop-done
invariant-loop-done g l = record {
  got : Got (g.S.Source.view l.fn.source) (g.S.Source.view l.source) l.fn.self.place l.self.place (take l.done l.buffer);
  within : l.done ≤ length l.buffer;
}

abbrev pub decreases-loop-done : goal.decreases-loop-done
decreases-loop-done g l = length l.buffer - l.done
