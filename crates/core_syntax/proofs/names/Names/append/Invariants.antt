use Rattle.std.proofs.Common.{◌≡◌, ◌++◌, take, reverse}
use Rattle.core_syntax.specs.Scope.{texts}
use Rattle.core_syntax.proofs.names.Names.append.Given as goal

abbrev pub invariant-loop-named : goal.invariant-loop-named
invariant-loop-named l = l.self ≡ texts (reverse (take l.named-index l.named-items)) ++ l.initial.self
