use Rattle.std.proofs.Common.{◌∙◌, ap, sym, subst, map, List}
use Rattle.std.specs.List.{AllByRecursion}
use Rattle.instance_book.specs.declared.numbered.Numbered.{Numbered}
use Rattle.instance_book.specs.declared.instance.KeptInstance.{KeptInstance}
use Rattle.instance_book.specs.Views.{instance_of}
use Rattle.instance_book.specs.Places.{IsPlaced, IsKept}
use Rattle.instance_book.proofs.Seen.{instance_put, all_put}
use Rattle.instance_book.proofs.instances.InOrder+KeptInstance.put_instance.Goals as goal

pub returns-clause-instances : goal.returns-clause-instances
returns-clause-instances c scripts = ap (map (instance_of scripts)) c.put.ensures ∙ instance_put scripts c.args.instance c.args.self.now.things.items

pub returns-clause-states : goal.returns-clause-states
returns-clause-states c scripts shelf p all =
    subst (λ (xs : List (Numbered KeptInstance)). AllByRecursion (IsKept scripts shelf) xs) (sym c.put.ensures) (all_put (IsKept scripts shelf) (λ x. x.number) c.args.instance c.args.self.now.things.items p all)

pub returns-clause-placed : goal.returns-clause-placed
returns-clause-placed c scripts p all =
    subst (λ (xs : List (Numbered KeptInstance)). AllByRecursion (IsPlaced scripts) xs) (sym c.put.ensures) (all_put (IsPlaced scripts) (λ x. x.number) c.args.instance c.args.self.now.things.items p all)
