use Rattle.std.proofs.Common.{◌≡◌, take}
use Rattle.instance_book.specs.Orders.{numbers_of}
use Rattle.instance_book.proofs.in_order.InOrder.numbers.Given as goal

abbrev pub invariant-loop-thing : goal.invariant-loop-thing
invariant-loop-thing g l = numbers_of l.things.items ≡ numbers_of (take l.thing-index l.self.things.items)
