use Rattle.std.proofs.Common.{◌≡◌, List, map, take}
use Rattle.script_nodes.specs.Setup.{Named}
use Rattle.instance_book.specs.Views.{instance_of}
use Rattle.instance_book.proofs.States.{kept_of}
use Rattle.instance_book.proofs.copies.InOrder+KeptInstance.try_clone.Given as goal

abbrev pub invariant-loop-instance : goal.invariant-loop-instance
invariant-loop-instance l = record {
  same : (scripts : List Named) → map (instance_of scripts) l.things.items ≡ map (instance_of scripts) (take l.instance-index l.self.things.items);
  kept : map kept_of l.things.items ≡ map kept_of (take l.instance-index l.self.things.items);
}
