use Rattle.std.proofs.Common.{ap, refl}
use Rattle.instance_book.specs.Changes.{answered_by}
use Rattle.instance_book.specs.Segments.{IsLeftBy}
use Rattle.book_visits.proofs.preparing.ending.Goals as goal

pub returns : goal.returns
returns c scripts =
    let d = c.args.done in
    let left_by : IsLeftBy d.effects.items d.left.items c.args.instance.now.item c.in_ok-after.after = rw (c.deref.ensures.value, c.deref-2.ensures.value) at c.in_ok-after.ensures in
    record {
      recorded = record { decision = rw c.in_ok-answer.ensures refl; logged = refl };
      change = (refl, ap (answered_by c.args.answered c.args.ticket.now.number) (left_by scripts c.args.instance.now.number));
    }
