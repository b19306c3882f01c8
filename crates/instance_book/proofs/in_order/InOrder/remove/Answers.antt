use Rattle.std.proofs.Common.{◌∙◌, sym, subst, List, not, ◌==◌}
use Rattle.instance_book.specs.declared.numbered.Numbered.{Numbered}
use Rattle.instance_book.specs.Orders.{Rises, numbers_of}
use Rattle.instance_book.proofs.Lists.{at_in, gap_in, dropped_at, dropped_none, rises_kept}
use Rattle.instance_book.proofs.in_order.InOrder.remove.Goals as goal

pub returns-in-Ok : goal.returns-in-Ok
returns-in-Ok g c =
    let xs = c.args.self.now.things.items in
    c.remove.ensures.items
    ∙ dropped_at xs c.args.number c.in-Ok.place c.args.self.now.rising (at_in c.deref.result.now xs c.args.number c.in-Ok.place c.deref.ensures.value c.in-Ok.ensures.found)

pub returns-in-Err : goal.returns-in-Err
returns-in-Err g c =
    let xs = c.args.self.now.things.items in
    dropped_none xs c.args.number c.in-Err.field-0 (gap_in c.deref.result.now xs c.args.number c.in-Err.field-0 c.deref.ensures.value c.in-Err.ensures.absent)

pub invariant_of-self : goal.invariant_of-self
invariant_of-self g c =
    let xs = c.args.self.now.things.items in
    let is = c.remove.ensures.items
    ∙ dropped_at xs c.args.number c.in-Ok.place c.args.self.now.rising (at_in c.deref.result.now xs c.args.number c.in-Ok.place c.deref.ensures.value c.in-Ok.ensures.found) in
    record { rising = subst (λ (ys : List (Numbered g.row.T.Denot)). Rises (numbers_of ys)) (sym is) (rises_kept (λ thing. not (thing.number == c.args.number)) xs c.args.self.now.rising) }
