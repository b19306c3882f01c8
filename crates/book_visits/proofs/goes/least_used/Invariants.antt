use Rattle.std.proofs.Common.{◌≡◌, ◌++◌, ◌-◌, ◌≤◌, length}
use Rattle.replay_spec.specs.Eviction.{least_used}
use Rattle.book_visits.specs.Uses.{read_uses}
use Rattle.book_visits.proofs.goes.least_used.Given as goal

abbrev pub invariant-loop-left : goal.invariant-loop-left
invariant-loop-left l = record {
  few : length l.pages.items ≤ l.count;
  all : l.pages.items ++ least_used (l.count - length l.pages.items) (read_uses l.left.items) ≡ least_used l.count (read_uses l.fn.uses.items);
}

abbrev pub decreases-loop-left : goal.decreases-loop-left
decreases-loop-left l = l.count - length l.pages.items
