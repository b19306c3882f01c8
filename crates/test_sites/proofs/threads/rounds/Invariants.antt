use Rattle.std.specs.Prelude.{All}
use Rattle.site.specs.Sites.{IsOwn}
use Rattle.test_sites.proofs.threads.rounds.Given as goal

abbrev pub invariant-loop-round : goal.invariant-loop-round
invariant-loop-round g l = All (λ v. IsOwn l.fn.site v.pass) l.visitors
