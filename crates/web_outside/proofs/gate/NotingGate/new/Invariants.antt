use Rattle.std.proofs.Common.{◌≡◌, vec_len}
use Rattle.web_outside.proofs.gate.NotingGate.new.Given as goal

abbrev pub invariant-loop : goal.invariant-loop
invariant-loop l = vec_len l.numbers ≡ l.counter
