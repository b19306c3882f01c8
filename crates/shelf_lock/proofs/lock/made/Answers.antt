use Rattle.std.proofs.Common.{rules, ◌≤◌, ap, sym, subst, refl, ◌∙◌}
use Rattle.shelf_lock.specs.Order.{entry_limit}
use Rattle.shelf_lock.proofs.Moves.{starts}
use Rattle.shelf_lock.proofs.lock.made.Goals as goal

pub new-requires : goal.new-requires
new-requires g c =
    let is = c.of.ensures in
    starts g.V.Kept _ _ _ _ refl (search rules) (ap g.V.Kept.history is ∙ c.requires.1) (subst g.V.Kept.sound (sym is) c.requires.0)
    (subst (λ v. g.V.Kept.first v ≤ entry_limit) (sym is) c.requires.2)
