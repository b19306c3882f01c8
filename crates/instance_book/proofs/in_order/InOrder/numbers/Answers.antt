use Rattle.std.proofs.Common.{◌≡◌, ◌∙◌, ap, sym, subst, length, ◌≤◌, List}
use Rattle.instance_book.specs.declared.numbered.Numbered.{Numbered}
use Rattle.instance_book.specs.Orders.{Rises, numbers_of}
use Rattle.instance_book.proofs.Lists.{taken}
use Rattle.instance_book.proofs.in_order.InOrder.numbers.Goals as goal

pub invariant_of-result : goal.invariant_of-result
invariant_of-result g c =
    let xs = c.args.self.now.things.items in
    let end : length xs ≤ c.loop-thing.thing-index = subst (λ (ys : List (Numbered g.row.T.Denot)). length ys ≤ c.loop-thing.thing-index) c.deref-thing-items.ensures.value c.loop-thing-test.false in
    let same : numbers_of c.loop-thing.things.items ≡ numbers_of xs = c.loop-thing.invariant ∙ ap (λ (ys : List (Numbered g.row.T.Denot)). numbers_of ys) (taken xs c.loop-thing.thing-index end) in
    record { rising = subst Rises (sym same) c.args.self.now.rising }
