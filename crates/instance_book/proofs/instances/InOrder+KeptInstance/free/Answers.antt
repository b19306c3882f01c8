use Rattle.std.proofs.Common.{◌∙◌, ◌==◌, not, ap, sym, subst, map, List}
use Rattle.std.specs.List.{AllByRecursion}
use Rattle.instance_book.specs.declared.numbered.Numbered.{Numbered}
use Rattle.instance_book.specs.declared.instance.KeptInstance.{KeptInstance}
use Rattle.instance_book.specs.Views.{instance_of}
use Rattle.instance_book.specs.Places.{IsPlaced, IsKept}
use Rattle.instance_book.proofs.Seen.{seen_without, all_kept}
use Rattle.instance_book.proofs.instances.InOrder+KeptInstance.free.Goals as goal

pub returns-clause-instances : goal.returns-clause-instances
returns-clause-instances c scripts = ap (map (instance_of scripts)) c.remove.ensures ∙ seen_without scripts c.args.number c.args.self.now.things.items

pub returns-clause-states : goal.returns-clause-states
returns-clause-states c scripts shelf all =
    subst (λ (xs : List (Numbered KeptInstance)). AllByRecursion (IsKept scripts shelf) xs) (sym c.remove.ensures) (all_kept (IsKept scripts shelf) (λ thing. not (thing.number == c.args.number)) c.args.self.now.things.items all)

pub returns-clause-placed : goal.returns-clause-placed
returns-clause-placed c scripts all =
    subst (λ (xs : List (Numbered KeptInstance)). AllByRecursion (IsPlaced scripts) xs) (sym c.remove.ensures) (all_kept (IsPlaced scripts) (λ thing. not (thing.number == c.args.number)) c.args.self.now.things.items all)
