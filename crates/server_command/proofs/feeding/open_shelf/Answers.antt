use Rattle.std.proofs.Common.{◌≡◌, ◌∙◌, Ok, Err, ap, sym, subst, arith, rules}
use Rattle.std.specs.Prelude.{◌&&◌}
use Rattle.disk_trio.specs.Laws.{reads_left}
use Rattle.disk_trio.specs.Trio.{trio_view}
use Rattle.disk_trio.specs.declared.trio.Disks.{Disks}
use Rattle.server_command.specs.Bare.{OpensAs, StaysShut, is_to_follow}
use Rattle.server_command.specs.Racks.{racks_of}
use Rattle.server_command.proofs.Audits.{counts_stay, counts_up, not_taken}
use Rattle.server_command.proofs.Bare.{has_opened, refused_shut, untaken_shut}
use Rattle.server_command.proofs.Openings.{both_tell}
use Rattle.server_command.proofs.feeding.open_shelf.Goals as goal

pub returns-in-Err : goal.returns-in-Err
returns-in-Err g c =
    let before = g.R.Rack.view c.args.rack.now in
    let after = g.R.Rack.view c.take_trio.new.rack in
    let rack = racks_of (g.R.Rack.tells && g.D.Disk.tells) before after in
    let v = trio_view {G = g.D.Disk} in
    let is : c.take_trio.result ≡ Err c.in-Err.fault = search rules in
    let p = c.in-Err.ensures in
    subst (λ why. StaysShut v (is_to_follow c.args.opening) rack c.args.shelf why) (sym c.untaken.ensures)
    (untaken_shut v (g.R.Rack.tells && g.D.Disk.tells) (is_to_follow c.args.opening) before after c.args.shelf c.in-Err.fault (record {
      asked = p.asked;
      others = p.others;
      home = p.err_home;
      later = p.later;
      failed_later = counts_stay before after c.args.shelf (counts_up (Disks g.row.D.Denot g.D.Disk) c.in-Err.fault _ _ p.counted) p.others_counted;
    })
    (λ failed. not_taken (Disks g.row.D.Denot g.D.Disk) rack c.args.shelf c.in-Err.fault p.counted
    (λ f. c.take_trio.ensures.failed (is ∙ ap (λ x. Err x) f)) failed)
    (λ t. p.err (both_tell _ _ t).0 c.args.shelf))

pub returns-in-Ok-open_on : goal.returns-in-Ok-open_on
returns-in-Ok-open_on g c =
    let before = g.R.Rack.view c.args.rack.now in
    let mid = g.R.Rack.view c.take_trio.new.rack in
    let v = trio_view {G = g.D.Disk} in
    let p = c.in-Ok.ensures in
    let disks = c.in-Ok.disks in
    let is : c.open_on.result ≡ Ok c.in-Ok-open_on.opened = search rules in
    has_opened v g.D.Disk.tells (g.R.Rack.tells && g.D.Disk.tells) (is_to_follow c.args.opening) before mid c.args.shelf disks (λ t. (both_tell _ _ t).1)
    p.asked (record {
      out = p.out;
      leaves = record { others_out = p.others_out; others = p.others; disks = p.other_disks; failed = omega (arith, p.counted); others_failed = p.others_counted };
    })
    p.later (λ t. p.images (both_tell _ _ t).0) (λ t. reads_left g.D.Disk g.met.D.Disk.reads_image disks (both_tell _ _ t).1) p.fresh c.in-Ok-open_on.opened
    (subst (OpensAs v g.D.Disk.tells (is_to_follow c.args.opening) c.args.shelf disks) is c.open_on.ensures.opens) c.in-Ok-open_on.ensures.open
    c.in-Ok-open_on.ensures.readable c.in-Ok-open_on.ensures.number

pub returns-in-Err-open_on : goal.returns-in-Err-open_on
returns-in-Err-open_on g c =
    let before = g.R.Rack.view c.args.rack.now in
    let mid = g.R.Rack.view c.take_trio.new.rack in
    let after = g.R.Rack.view c.give_back.new.rack in
    let rack = racks_of (g.R.Rack.tells && g.D.Disk.tells) before after in
    let v = trio_view {G = g.D.Disk} in
    let p = c.in-Ok.ensures in
    let disks = c.in-Ok.disks in
    let is : c.open_on.result ≡ Err (c.in-Err-open_on.fault, c.in-Err-open_on.disks, c.in-Err-open_on._nonces) = search rules in
    subst (λ why. StaysShut v (is_to_follow c.args.opening) rack c.args.shelf why) (sym c.why_not.ensures)
    (refused_shut v g.D.Disk.tells (g.R.Rack.tells && g.D.Disk.tells) (is_to_follow c.args.opening) before mid c.args.shelf disks (λ t. (both_tell _ _ t).1)
    p.asked (record {
      out = p.out;
      leaves = record { others_out = p.others_out; others = p.others; disks = p.other_disks; failed = omega (arith, p.counted); others_failed = p.others_counted };
    })
    p.later (λ t. p.images (both_tell _ _ t).0) (λ t. reads_left g.D.Disk g.met.D.Disk.reads_image disks (both_tell _ _ t).1) p.fresh after c.in-Err-open_on.disks
    c.in-Err-open_on.fault c.in-Err-open_on._nonces
    (subst (OpensAs v g.D.Disk.tells (is_to_follow c.args.opening) c.args.shelf disks) is c.open_on.ensures.opens) c.give_back.ensures)
