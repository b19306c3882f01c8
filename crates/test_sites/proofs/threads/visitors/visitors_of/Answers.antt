use Rattle.std.proofs.Common.{Some}
use Rattle.std.proofs.lemmas.List.Elements.{All-pop, All-push, All-same}
use Rattle.site.specs.Sites.{IsOwn}
use Rattle.test_sites.specs.declared.threads.visitors.Visitor.{Visitor}
use Rattle.test_sites.proofs.threads.visitors.visitors_of.Goals as goal

pub hiring-preserved : goal.hiring-preserved
hiring-preserved c =
    let site = c.args.site.now in
    let popped = All-pop (λ pass. IsOwn site pass) c.hiring.passes.items c.pop.new.self.items (Some c.in-Some.pass) c.in-Some.ensures.items c.hiring.invariant.0 in
    let hired = All-push {X = Visitor} (λ v. IsOwn site v.pass) c.hiring.visitors.items _ c.hiring.invariant.1 popped.1 in
    (popped.0, All-same {X = Visitor} (λ v. IsOwn site v.pass) _ _ c.in_ok-push.ensures.items hired)
