use Rattle.std.proofs.Common.{rules, ◌≡◌, ◌∷◌, [], Some, slice_get, subst}
use Rattle.test_sites.proofs.Popped.{own_both}
use Rattle.test_sites.proofs.ends.closed.Goals as goal

pub close-disks-requires-clause-own : goal.close-disks-requires-clause-own
close-disks-requires-clause-own g c = λ j p at.
    let items : c.push_reserved-2.new.self.items ≡ c.args.first ∷ c.args.second ∷ [] = search rules in
    own_both c.args.site c.args.first c.args.second c.requires.own.0 c.requires.own.1 j p (subst (λ l. slice_get l j ≡ Some p) items at)
