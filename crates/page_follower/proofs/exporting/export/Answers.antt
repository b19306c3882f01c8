use Rattle.std.proofs.Common.{rules, ◌≡◌, Err, sym, subst, IsTrue, refl}
use Rattle.shelf.specs.PageJournal.Settled.{bodies_in}
use Rattle.shelf.proofs.PageJournal.Scans.{quiet_none}
use Rattle.page_follower.specs.Causes.{HasExportCauses}
use Rattle.page_follower.specs.Exporting.{Exports}
use Rattle.page_follower.specs.declared.exporting.ExportFault.TheVariants as fault
use Rattle.page_follower.proofs.Exports.{exported, no_head, not_all, not_done, not_handed, writes_then}
use Rattle.page_follower.proofs.exporting.export.Goals as goal

pub returns-in_err-write_head : goal.returns-in_err-write_head
returns-in_err-write_head g c =
    let is : c.from_residual.result ≡ Err fault.Unwritten = search rules in
    let head = c.in_err-write_head.ensures in
    let bodies = bodies_in g.D.Disk.view c.args.shelf.now.journal in
    record {
      exports = λ (told : IsTrue g.D.Disk.tells).
          subst (Exports _ _ bodies) (sym is) (no_head _ _ bodies head.part head.cause.later head.cause.failed);
      causes = subst (HasExportCauses _ _ _ _) (sym is) (record { later = head.cause.later; caused = head.cause.failed });
      handed = not_done _ fault.Unwritten _ is;
      quiet = quiet_none (g.D.Disk.view c.args.shelf.now.journal.disk) (g.met.D.Disk.only_now c.args.shelf.now.journal.disk);
      readable = c.requires;
      in_order = λ order. order;
      same = refl;
    }

pub returns-in_err-send_all : goal.returns-in_err-send_all
returns-in_err-send_all g c =
    let is : c.from_residual-in_err-send_all.result ≡ Err c.in_err-send_all.field-0.0 = search rules in
    let head = c.in_ok-write_head.ensures in
    let sent = c.in_err-send_all.ensures in
    let bodies = bodies_in g.D.Disk.view c.args.shelf.now.journal in
    record {
      exports = λ (told : IsTrue g.D.Disk.tells).
          subst (Exports _ _ bodies) (sym is) (not_all _ _ _ bodies c.in_err-send_all.field-0.0 head.ok head.cause.later (sent.sends told));
      causes = subst (HasExportCauses _ _ _ _) (sym is) (writes_then _ _ _ _ _ _ head.cause.later sent.causes);
      handed = not_done _ c.in_err-send_all.field-0.0 _ is;
      quiet = sent.quiet;
      readable = sent.readable;
      in_order = sent.in_order;
      same = sent.same;
    }

pub returns-in_err-flush : goal.returns-in_err-flush
returns-in_err-flush g c =
    let is : c.from_residual-in_err-flush.result ≡ Err fault.Unwritten = search rules in
    let head = c.in_ok-write_head.ensures in
    let sent = c.in_ok-send_all.ensures in
    let flushed = c.in_err-flush.ensures in
    let view = g.O.Sink.view in
    let bodies = bodies_in g.D.Disk.view c.args.shelf.now.journal in
    record {
      exports = λ (told : IsTrue g.D.Disk.tells).
          subst (Exports _ _ bodies) (sym is)
          (not_handed _ _ _ _ bodies head.ok head.cause.later (sent.sends told) flushed.same flushed.cause.later flushed.cause.failed);
      causes = subst (HasExportCauses _ _ _ _) (sym is)
          (writes_then (view c.args.sink.now) (view c.write_head.new.sink) (view c.flush.new.self) _ _ _ head.cause.later
          (writes_then (view c.write_head.new.sink) (view c.send_all.new.sink) (view c.flush.new.self) _ _ _ sent.causes.later
          (record { later = flushed.cause.later; caused = flushed.cause.failed })));
      handed = not_done _ fault.Unwritten _ is;
      quiet = sent.quiet;
      readable = sent.readable;
      in_order = sent.in_order;
      same = sent.same;
    }

pub returns : goal.returns
returns g c =
    let head = c.in_ok-write_head.ensures in
    let sent = c.in_ok-send_all.ensures in
    let flushed = c.in_ok-flush.ensures in
    let view = g.O.Sink.view in
    let bodies = bodies_in g.D.Disk.view c.args.shelf.now.journal in
    record {
      exports = λ (told : IsTrue g.D.Disk.tells).
          exported _ _ _ _ bodies head.ok head.cause.later (sent.sends told) flushed.same flushed.cause.later flushed.handed;
      causes = writes_then (view c.args.sink.now) (view c.write_head.new.sink) (view c.flush.new.self) _ _ _ head.cause.later
          (writes_then (view c.write_head.new.sink) (view c.send_all.new.sink) (view c.flush.new.self) _ _ _ sent.causes.later
          (record { later = flushed.cause.later; caused = tt }));
      handed = flushed.handed;
      quiet = sent.quiet;
      readable = sent.readable;
      in_order = sent.in_order;
      same = sent.same;
    }
