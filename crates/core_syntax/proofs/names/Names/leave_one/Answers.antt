use Rattle.std.proofs.Common.{◌≡◌, ◌++◌, ◌∷◌, [], subst}
use Rattle.core_syntax.specs.Scope.{HasPlaces}
use Rattle.core_syntax.proofs.Scope.{one_fewer, has_innermost}
use Rattle.core_syntax.proofs.names.Names.leave_one.Goals as goal

pub put_back-requires : goal.put_back-requires
put_back-requires c =
    let items : c.self.inside.names.items ≡ c.pop.new.self.items ++ c.in-Some.named ∷ [] = cc (c.in-Some.ensures.items) in
    has_innermost c.pop.new.self.items c.in-Some.named c.self.inside.newest (subst (HasPlaces c.self.inside.newest) items c.self.invariant)

pub invariant_of-self : goal.invariant_of-self
invariant_of-self c =
    let items : c.self.inside.names.items ≡ c.pop.new.self.items ++ c.in-Some.named ∷ [] = cc (c.in-Some.ensures.items) in
    one_fewer c.pop.new.self.items c.in-Some.named c.self.inside.newest c.put_back.new.newest (subst (HasPlaces c.self.inside.newest) items c.self.invariant) c.put_back.ensures
