use Rattle.site.specs.Sites.{IsOwn}
use Rattle.test_sites.proofs.threads.visitors.visit_in_turn.Given as goal

abbrev pub invariant-loop-start : goal.invariant-loop-start
invariant-loop-start g l = IsOwn l.fn.site l.visitor.pass

abbrev pub invariant-loop-turn : goal.invariant-loop-turn
invariant-loop-turn g l = IsOwn l.fn.site l.visitor.pass
