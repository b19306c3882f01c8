use Rattle.shelf.proofs.Known.{told_still}
use Rattle.shelf.proofs.Still.{order_still}
use Rattle.shelf.proofs.shelf.Shelf.for_each.Goals as goal

pub returns-clause-in_order : goal.returns-clause-in_order
returns-clause-in_order g c = λ order.
    let s = c.args.self.now in
    let done = c.for_each.ensures in
    order_still g.D.Disk.view g.D.Disk.tells s c.for_each.new.self s.notes (record { settled = λ told settled. done.settled told; format = done.format; seen = done.quiet.seen; images = done.quiet.images }) done.len (told_still s.notes) order done.sound done.whole order.knows.noted
