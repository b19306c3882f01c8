use Rattle.std.proofs.Common.{IfSome}
use Rattle.send_suspend.specs.Segments.{FitsFrom}
use Rattle.test_scripts.proofs.twins.chain_of.Given as goal

abbrev pub invariant-loop-answer : goal.invariant-loop-answer
invariant-loop-answer l = IfSome l.chain.from (λ f. FitsFrom l.script f)
