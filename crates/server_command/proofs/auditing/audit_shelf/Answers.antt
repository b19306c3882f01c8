use Rattle.std.proofs.Common.{◌≡◌, ◌∙◌, false, inl, inr, Err, ap, sym, subst, arith, rules}
use Rattle.std.specs.Prelude.{◌&&◌}
use Rattle.std.proofs.lemmas.Result.{IfOk-weaker}
use Rattle.disk_trio.specs.Laws.{reads_left}
use Rattle.disk_trio.specs.Trio.{trio_view}
use Rattle.disk_trio.specs.declared.trio.Disks.{Disks}
use Rattle.trio_rack.specs.Trios.{shelves_of}
use Rattle.server_command.specs.Auditing.{ComesOne, StopsOne}
use Rattle.server_command.specs.Racks.{racks_of}
use Rattle.server_command.proofs.Audits.{audit_comes, call_failed, counts_stay, counts_up, not_taken, untaken_stops}
use Rattle.server_command.proofs.Openings.{both_tell, same_or_not}
use Rattle.server_command.proofs.auditing.audit_shelf.Goals as goal

pub returns-in-Err-clause-comes : goal.returns-in-Err-clause-comes
returns-in-Err-clause-comes g c =
    let rack = racks_of (g.R.Rack.tells && g.D.Disk.tells) (g.R.Rack.view c.args.rack.now) (g.R.Rack.view c.take_trio.new.rack) in
    let is : c.take_trio.result ≡ Err c.in-Err.fault = search rules in
    subst (λ why. StopsOne rack c.args.shelf why) (sym c.untaken.ensures)
    (untaken_stops rack c.args.shelf c.in-Err.fault c.in-Err.ensures.asked
    (not_taken (Disks g.row.D.Denot g.D.Disk) rack c.args.shelf c.in-Err.fault c.in-Err.ensures.counted
    (λ failed. c.take_trio.ensures.failed (is ∙ ap (λ f. Err f) failed))))

pub returns-in-Err-clause-leaves : goal.returns-in-Err-clause-leaves
returns-in-Err-clause-leaves g c = record {
  no_more = λ t. c.in-Err.ensures.err (both_tell _ _ t).0;
  home = c.in-Err.ensures.err_home;
  later = c.in-Err.ensures.later;
  failed_later = counts_stay (g.R.Rack.view c.args.rack.now) (g.R.Rack.view c.take_trio.new.rack) c.args.shelf
      (counts_up (Disks g.row.D.Denot g.D.Disk) c.in-Err.fault _ _ c.in-Err.ensures.counted) c.in-Err.ensures.others_counted;
}

pub returns-clause-comes : goal.returns-clause-comes
returns-clause-comes g c =
    let before = g.R.Rack.view c.args.rack.now in
    let mid = g.R.Rack.view c.take_trio.new.rack in
    let after = g.R.Rack.view c.give_trio.new.rack in
    let rack = racks_of (g.R.Rack.tells && g.D.Disk.tells) before after in
    let disks = c.in-Ok.disks in
    let image = (trio_view disks).seen in
    let taken = c.in-Ok.ensures in
    subst (ComesOne rack c.args.shelf) (sym c.counted.ensures)
    (audit_comes rack c.args.shelf image c.audit-answer.result (c.give_trio.ensures.asked ∙ taken.asked)
    (λ t. taken.images (both_tell _ _ t).0 image (reads_left g.D.Disk g.met.D.Disk.reads_image disks (both_tell _ _ t).1))
    (λ t. c.audit-answer.ensures.answer (both_tell _ _ t).1)
    (λ t. IfOk-weaker c.audit-answer.result _ _
    (λ _ only left h. only left (c.give_trio.ensures.images (both_tell _ _ t).0 (both_tell _ _ t).1 left h) ∙ c.audit-answer.ensures.read.seen (both_tell _ _ t).1)
    (c.audit-answer.ensures.durable (both_tell _ _ t).1))
    (λ failed. call_failed rack mid c.args.shelf (trio_view c.audit-answer.new.disks).faults taken.later
    (let rose = c.audit-answer.ensures.cause failed in omega (arith, rose, taken.fresh)) c.give_trio.ensures.faults taken.counted c.give_trio.ensures.counted_whole))

pub returns-clause-leaves : goal.returns-clause-leaves
returns-clause-leaves g c =
    let before = g.R.Rack.view c.args.rack.now in
    let mid = g.R.Rack.view c.take_trio.new.rack in
    let after = g.R.Rack.view c.give_trio.new.rack in
    let taken = c.in-Ok.ensures in
    record {
      no_more = λ t n image h. elim (same_or_not n c.args.shelf) [
        | inl e ↦ subst (λ m. (shelves_of before).holds m image) (sym e)
            (taken.images (both_tell _ _ t).0 image (c.audit-answer.ensures.read.images image
            (c.give_trio.ensures.images (both_tell _ _ t).0 (both_tell _ _ t).1 image (subst (λ m. (shelves_of after).holds m image) e h))))
        | inr ne ↦ taken.others n ne image (c.give_trio.ensures.others n ne image h)
      ];
      home = λ n home. elim (same_or_not n c.args.shelf) [
        | inl e ↦ subst (λ m. (shelves_of after).out m ≡ false) (sym e) c.give_trio.ensures.home
        | inr ne ↦ c.give_trio.ensures.others_out n ne ∙ (taken.others_out n ne ∙ home)
      ];
      later = omega (arith, taken.later, c.give_trio.ensures.faults, c.faults-count.ensures, c.faults-count.type_inv);
      failed_later = counts_stay before after c.args.shelf (let whole = c.give_trio.ensures.counted_whole in omega (arith, whole, taken.counted))
          (λ n ne. c.give_trio.ensures.others_counted n ne ∙ taken.others_counted n ne);
    }
