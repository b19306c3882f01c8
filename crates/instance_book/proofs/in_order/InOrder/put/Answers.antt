use Rattle.std.proofs.Common.{◌≡◌, ◌∙◌, ap, sym, subst, List, set}
use Rattle.std.specs.List.{insert}
use Rattle.journal_records.specs.ReplaySpec.Change.{put_in_order}
use Rattle.instance_book.specs.declared.numbered.Numbered.{Numbered}
use Rattle.instance_book.specs.Orders.{Rises, numbers_of}
use Rattle.instance_book.proofs.Lists.{at_in, gap_in, done_if, put_at, put_in_gap, rises_put}
use Rattle.instance_book.proofs.in_order.InOrder.put.Goals as goal

pub returns-in-Ok : goal.returns-in-Ok
returns-in-Ok g c =
    let xs = c.args.self.now.things.items in
    ap (λ (x : Numbered g.row.T.Denot). set xs c.in-Ok.place x) c.replace.ensures.after
    ∙ put_at xs c.args.thing c.in-Ok.place c.args.self.now.rising (at_in c.deref.result.now xs c.args.thing.number c.in-Ok.place c.deref.ensures.value c.in-Ok.ensures.found)

pub returns-in-Err : goal.returns-in-Err
returns-in-Err g c =
    let xs = c.args.self.now.things.items in
    let items : c.insert.new.self.items ≡ insert xs c.in-Err.place c.args.thing = c.insert.ensures.items ∙ done_if c.insert.result _ _ (c.insert.ensures.succeeds c.requires) in
    items ∙ put_in_gap xs c.args.thing c.in-Err.place (gap_in c.deref.result.now xs c.args.thing.number c.in-Err.place c.deref.ensures.value c.in-Err.ensures.absent)

pub invariant_of-self : goal.invariant_of-self
invariant_of-self g c =
    let xs = c.args.self.now.things.items in
    let is : set xs c.in-Ok.place c.replace.new.dest ≡ put_in_order (λ thing. thing.number) c.args.thing xs =
    ap (λ (x : Numbered g.row.T.Denot). set xs c.in-Ok.place x) c.replace.ensures.after
    ∙ put_at xs c.args.thing c.in-Ok.place c.args.self.now.rising (at_in c.deref.result.now xs c.args.thing.number c.in-Ok.place c.deref.ensures.value c.in-Ok.ensures.found) in
    record { rising = subst (λ (ys : List (Numbered g.row.T.Denot)). Rises (numbers_of ys)) (sym is) (rises_put xs c.args.thing c.args.self.now.rising) }

pub invariant_of-self-in-Err : goal.invariant_of-self-in-Err
invariant_of-self-in-Err g c =
    let xs = c.args.self.now.things.items in
    let items : c.insert.new.self.items ≡ insert xs c.in-Err.place c.args.thing = c.insert.ensures.items ∙ done_if c.insert.result _ _ (c.insert.ensures.succeeds c.requires) in
    let is = items ∙ put_in_gap xs c.args.thing c.in-Err.place (gap_in c.deref.result.now xs c.args.thing.number c.in-Err.place c.deref.ensures.value c.in-Err.ensures.absent) in
    record { rising = subst (λ (ys : List (Numbered g.row.T.Denot)). Rises (numbers_of ys)) (sym is) (rises_put xs c.args.thing c.args.self.now.rising) }
