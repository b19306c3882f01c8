use Rattle.std.specs.Prelude.{All, vec_len}
use Rattle.site.specs.Sites.{IsOwn}
use Rattle.test_sites.proofs.threads.visitors.visitors_of.Given as goal

abbrev pub invariant-hiring : goal.invariant-hiring
invariant-hiring l = (All (λ pass. IsOwn l.fn.site pass) l.passes.items) × (All (λ v. IsOwn l.fn.site v.pass) l.visitors.items)

abbrev pub decreases-hiring : goal.decreases-hiring
decreases-hiring l = vec_len l.passes
