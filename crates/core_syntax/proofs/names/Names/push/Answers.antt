use Rattle.std.proofs.Common.{◌≡◌, ◌++◌, ◌∷◌, [], length, sym, subst, ap, ◌∙◌, refl, arith}
use Rattle.std.proofs.lemmas.Map.Text.{btree_map_updates_str}
use Rattle.core_syntax.specs.declared.names.Named.{Named}
use Rattle.core_syntax.specs.Scope.{HasPlaces, place_at}
use Rattle.core_syntax.proofs.Scope.{one_more}
use Rattle.core_syntax.proofs.names.Names.push.Goals as goal

pub invariant_of-self-2 : goal.invariant_of-self-2
invariant_of-self-2 c =
    let old = c.self.inside.newest in
    let new = c.insert.new.self in
    let items = c.self.inside.names.items in
    let n : Named = record { name = c.args.name; earlier = c.in_ok-earlier.earlier } in
    let names : c.push.new.self.items ≡ items ++ n ∷ [] = cc (c.in_ok-push.ensures.items, c.try_reserve.ensures.items) in
    let earlier = c.in_ok-earlier.ensures.old ∙ ap (place_at old) c.as_str.ensures in
    let updates = btree_map_updates_str c.as_str.result.now old new _ c.in_ok-earlier.ensures.updates in
    let count : c.len.result ≡ length items = omega (arith, c.self.inside.names.ok.0) in
    subst (HasPlaces new) (sym names) (one_more items n old new c.self.invariant earlier (λ y. updates y ∙ rw (c.as_str.ensures, count) refl))
