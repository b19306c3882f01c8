use Rattle.std.proofs.Common.{◌≡◌, drop}
use Rattle.core_syntax.proofs.names.Names.leave.Given as goal

abbrev pub invariant-loop : goal.invariant-loop
invariant-loop l = l.self ≡ drop l.counter l.initial.self
