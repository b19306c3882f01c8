use Rattle.std.proofs.Common.{sym}
use Rattle.instance_book.proofs.Lists.{at_in, gap_in, first_at, none_at}
use Rattle.instance_book.proofs.in_order.InOrder.get.Goals as goal

pub returns-in-Ok : goal.returns-in-Ok
returns-in-Ok g c =
    let xs = c.args.self.now.things.items in
    sym (first_at xs c.args.number c.in-Ok.place c.index.result.now c.args.self.now.rising (at_in c.deref.result.now xs c.args.number c.in-Ok.place c.deref.ensures.value c.in-Ok.ensures.found) c.index.ensures)

pub returns-in-Err : goal.returns-in-Err
returns-in-Err g c =
    let xs = c.args.self.now.things.items in
    sym (none_at xs c.args.number c.in-Err.field-0 (gap_in c.deref.result.now xs c.args.number c.in-Err.field-0 c.deref.ensures.value c.in-Err.ensures.absent))
