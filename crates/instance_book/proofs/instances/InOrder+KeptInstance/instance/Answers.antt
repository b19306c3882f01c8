use Rattle.instance_book.specs.Places.{IsPlaced, IsKept}
use Rattle.instance_book.proofs.Seen.{instance_seen, all_found}
use Rattle.instance_book.proofs.instances.InOrder+KeptInstance.instance.Goals as goal

pub returns-clause-instance : goal.returns-clause-instance
returns-clause-instance c scripts = instance_seen scripts c.args.number c.args.self.now.things.items c.get.result c.get.ensures

pub returns-clause-states : goal.returns-clause-states
returns-clause-states c scripts shelf all = all_found (IsKept scripts shelf) (λ x. x.number) c.args.number c.args.self.now.things.items c.get.result c.get.ensures all

pub returns-clause-placed : goal.returns-clause-placed
returns-clause-placed c scripts all = all_found (IsPlaced scripts) (λ x. x.number) c.args.number c.args.self.now.things.items c.get.result c.get.ensures all
