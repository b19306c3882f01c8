use Rattle.std.proofs.Common.{◌≡◌, take, reverse, false}
use Rattle.core_syntax.specs.Names.{repeats}
use Rattle.core_syntax.specs.Scope.{texts}
use Rattle.core_syntax.proofs.names.Names.repeat.Given as goal

abbrev pub invariant-loop-named : goal.invariant-loop-named
invariant-loop-named l = repeats (texts (reverse (take l.named-index l.named-items))) ≡ false
