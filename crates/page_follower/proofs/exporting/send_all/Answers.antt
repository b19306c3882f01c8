use Rattle.std.proofs.Common.{rules, ◌≡◌, ◌∙◌, IsTrue, Ok, Err, sym, subst, true, false}
use Rattle.shelf.specs.PageJournal.Settled.{bodies_in, view_of}
use Rattle.shelf.specs.JournalRecords.Roles.{feed_of}
use Rattle.page_follower.specs.Causes.{HasExportCauses}
use Rattle.page_follower.specs.Feed.{fed}
use Rattle.page_follower.specs.Sending.{Writes, WritesPart}
use Rattle.page_follower.specs.Exporting.{WritesSome}
use Rattle.page_follower.specs.declared.exporting.ExportFault.TheVariants as fault
use Rattle.page_follower.proofs.Exports.{same_sink, sent_by, sent_failed, sent_on, sent_part, sent_short, sent_some}
use Rattle.page_follower.proofs.exporting.send_all.Goals as goal

pub returns-then-failed : goal.returns-then-failed
returns-then-failed g c =
    let begun = c.new-sender.ensures in
    let each = c.for_each-read.ensures in
    let view = g.O.Sink.view in
    let before = view_of g.D.Disk.view c.args.shelf.now.journal in
    let after = view_of g.D.Disk.view c.for_each-read.new.self.journal in
    let bodies = bodies_in g.D.Disk.view c.args.shelf.now.journal in
    let ended : c.for_each-read.new.taker.failed ≡ true = sym c.failed.ensures ∙ c.if-failed.true in
    let kept = same_sink view each.handed.0 c.new-sender.result c.for_each-read.new.taker each.handed.1 ∙ begun.same_reference in
    record {
      sends = λ (told : IsTrue g.D.Disk.tells).
          let front = each.front told in
          let sent = sent_by view front.done c.new-sender.result c.for_each-read.new.taker true begun.failed ended front.taken in
          let whole = sent_part _ _ bodies front.done front.rest front.all sent in
          let from_it = subst (λ s. WritesPart (view s) (view c.for_each-read.new.taker.sink.now) (fed (feed_of bodies))) begun.sink whole in
          subst (λ s. WritesPart (view c.args.sink.now) (view s) (fed (feed_of bodies))) (search (rules, kept)) from_it;
      causes =
          let sent = sent_by view each.handed.0 c.new-sender.result c.for_each-read.new.taker true begun.failed ended each.handed.1 in
          let here = sent_short _ _ before after _ sent in
          subst (λ s. HasExportCauses (view c.args.sink.now) (view s) before after (Err fault.Unwritten)) (search (rules, kept))
          (subst (λ s. HasExportCauses (view s) (view c.for_each-read.new.taker.sink.now) before after (Err fault.Unwritten)) begun.sink here);
      quiet = each.quiet;
      readable = each.readable;
      in_order = each.in_order;
      same = each.same;
    }

pub returns-in-Ok : goal.returns-in-Ok
returns-in-Ok g c =
    let begun = c.new-sender.ensures in
    let each = c.for_each-read.ensures in
    let view = g.O.Sink.view in
    let before = view_of g.D.Disk.view c.args.shelf.now.journal in
    let after = view_of g.D.Disk.view c.for_each-read.new.self.journal in
    let bodies = bodies_in g.D.Disk.view c.args.shelf.now.journal in
    let ended : c.for_each-read.new.taker.failed ≡ false = sym c.failed.ensures ∙ c.if-failed.false in
    let kept = same_sink view each.handed.0 c.new-sender.result c.for_each-read.new.taker each.handed.1 ∙ begun.same_reference in
    record {
      sends = λ (told : IsTrue g.D.Disk.tells).
          let taken = c.in-Ok.ensures.taken told in
          let sent = sent_by view bodies c.new-sender.result c.for_each-read.new.taker false begun.failed ended taken in
          let from_it = subst (λ s. Writes (view s) (view c.for_each-read.new.taker.sink.now) (fed (feed_of bodies))) begun.sink sent in
          subst (λ s. Writes (view c.args.sink.now) (view s) (fed (feed_of bodies))) (search (rules, kept)) from_it;
      causes =
          let sent = sent_by view each.handed.0 c.new-sender.result c.for_each-read.new.taker false begun.failed ended each.handed.1 in
          let here = sent_on _ _ before after _ sent in
          subst (λ s. HasExportCauses (view c.args.sink.now) (view s) before after (Ok tt)) (search (rules, kept))
          (subst (λ s. HasExportCauses (view s) (view c.for_each-read.new.taker.sink.now) before after (Ok tt)) begun.sink here);
      quiet = each.quiet;
      readable = each.readable;
      in_order = each.in_order;
      same = each.same;
    }

pub returns-in-Err : goal.returns-in-Err
returns-in-Err g c =
    let begun = c.new-sender.ensures in
    let each = c.for_each-read.ensures in
    let view = g.O.Sink.view in
    let before = view_of g.D.Disk.view c.args.shelf.now.journal in
    let after = view_of g.D.Disk.view c.for_each-read.new.self.journal in
    let bodies = bodies_in g.D.Disk.view c.args.shelf.now.journal in
    let ended : c.for_each-read.new.taker.failed ≡ false = sym c.failed.ensures ∙ c.if-failed.false in
    let kept = same_sink view each.handed.0 c.new-sender.result c.for_each-read.new.taker each.handed.1 ∙ begun.same_reference in
    record {
      sends = λ (told : IsTrue g.D.Disk.tells).
          let front = each.front told in
          let sent = sent_by view front.done c.new-sender.result c.for_each-read.new.taker false begun.failed ended front.taken in
          let some = sent_some _ _ bodies front.done front.rest front.all sent in
          let from_it = subst (λ s. WritesSome (view s) (view c.for_each-read.new.taker.sink.now) (fed (feed_of bodies))) begun.sink some in
          subst (λ s. WritesSome (view c.args.sink.now) (view s) (fed (feed_of bodies))) (search (rules, kept)) from_it;
      causes =
          let sent = sent_by view each.handed.0 c.new-sender.result c.for_each-read.new.taker false begun.failed ended each.handed.1 in
          let here = sent_failed _ _ before after _ sent
          c.in-Err.ensures.cause in
          subst (λ s. HasExportCauses (view c.args.sink.now) (view s) before after (Err fault.DiskFault)) (search (rules, kept))
          (subst (λ s. HasExportCauses (view s) (view c.for_each-read.new.taker.sink.now) before after (Err fault.DiskFault)) begun.sink here);
      quiet = each.quiet;
      readable = each.readable;
      in_order = each.in_order;
      same = each.same;
    }
