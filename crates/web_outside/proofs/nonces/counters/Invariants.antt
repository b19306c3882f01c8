use Rattle.std.proofs.Common.{◌≡◌, replicate}
use Rattle.web_outside.specs.Counted.{from_zero}
use Rattle.web_outside.proofs.nonces.counters.Given as goal

abbrev pub invariant-loop : goal.invariant-loop
invariant-loop l = l.counters.items ≡ replicate l.counter from_zero
