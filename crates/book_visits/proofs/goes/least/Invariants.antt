use Rattle.std.proofs.Common.{◌≡◌, drop}
use Rattle.replay_spec.specs.Eviction.{least}
use Rattle.book_visits.specs.Uses.{read_use, read_uses}
use Rattle.book_visits.proofs.goes.least.Given as goal

abbrev pub invariant-loop-other : goal.invariant-loop-other
invariant-loop-other l = least (read_use l.least) (read_uses (drop l.other-index l.others)) ≡ least (read_use l.fn.first) (read_uses l.others)
