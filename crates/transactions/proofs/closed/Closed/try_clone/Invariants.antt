use Rattle.std.proofs.Common.{◌≡◌, take}
use Rattle.transactions.proofs.closed.Closed.try_clone.Given as goal

abbrev pub invariant-loop-name : goal.invariant-loop-name
invariant-loop-name l = l.copy ≡ take l.name-index l.name-items
