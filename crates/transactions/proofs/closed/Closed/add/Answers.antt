use Rattle.std.proofs.Common.{◌≡◌, ◌++◌, ◌∷◌, [], sym, subst}
use Rattle.transactions.specs.Sets.{HasJust}
use Rattle.transactions.proofs.Sets.{one_more}
use Rattle.transactions.proofs.closed.Closed.add.Goals as goal

pub invariant_of-self-2 : goal.invariant_of-self-2
invariant_of-self-2 c =
    let names : c.push.new.self.items ≡ c.self.inside.names.items ++ c.args.name ∷ [] = cc (c.in_ok-push.ensures.items, c.try_reserve.ensures.items) in
    subst (HasJust c.insert.new.self) (sym names)
    (one_more c.self.inside.set c.insert.new.self c.self.inside.names.items c.args.name c.self.invariant c.in_ok-insert.ensures.updates.0)
