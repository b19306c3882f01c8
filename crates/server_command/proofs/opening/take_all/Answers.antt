use Rattle.std.proofs.Common.{◌≡◌, ◌+◌, false, inl, length, subst, sym, arith, rules}
use Rattle.std.specs.Prelude.{IsTrue, ◌&&◌}
use Rattle.web_disk.specs.View.{AreAmong}
use Rattle.disk_trio.specs.Laws.{reads_left}
use Rattle.disk_trio.specs.Trio.{trio_view}
use Rattle.disk_trio.specs.declared.trio.Disks.{Disks}
use Rattle.trio_rack.specs.Trios.{AreFrom as TrioIsFrom, LeavesOtherDisks, shelves_of}
use Rattle.trio_rack.specs.Each.{TakesEach}
use Rattle.trio_rack.proofs.Each.{back_as_they_were, each_more, takes_more_of_each}
use Rattle.play_desk.proofs.Asking.{asked_until}
use Rattle.site_serving.specs.Shelves.{AreNew}
use Rattle.server_command.specs.Opening.{AreFrom, seen_on}
use Rattle.server_command.proofs.Openings.{TakesUpTo, all_more, both_tell, seen_more, takes_next}
use Rattle.server_command.proofs.opening.take_all.Goals as goal

pub taking-preserved : goal.taking-preserved
taking-preserved g c =
    let l = c.taking in
    let told = IsTrue (g.R.Rack.tells && g.D.Disk.tells) in
    let before = g.R.Rack.view c.args.rack.now in
    let after = g.R.Rack.view c.take_trio.new.rack in
    let three = c.in-Ok-take_trio.three in
    let taken = c.in-Ok-take_trio.ensures in
    let next = takes_next told before (g.R.Rack.view l.rack) after l.number (seen_on {D = Disks g.row.D.Denot g.D.Disk} trio_view l.disks.items) (trio_view three).seen l.invariant.taken
    (record { out = taken.out; others_out = taken.others_out; others = taken.others; later = taken.later; failed = taken.counted; others_failed = taken.others_counted; asked = taken.asked })
    (λ t. taken.images (both_tell g.R.Rack.tells g.D.Disk.tells t).0 (trio_view three).seen (reads_left g.D.Disk g.met.D.Disk.reads_image three (both_tell g.R.Rack.tells g.D.Disk.tells t).1)) in
    record {
      size = omega (arith, l.invariant.size, c.push_reserved.ensures.len);
      room = omega (arith, l.invariant.room, c.push_reserved.ensures.capacity);
      taken = subst (λ ds. TakesUpTo told before after (l.number + 1) (seen_on {D = Disks g.row.D.Denot g.D.Disk} trio_view ds)) (sym c.push_reserved.ensures.items)
          (subst (TakesUpTo told before after (l.number + 1)) (sym (seen_more {D = Disks g.row.D.Denot g.D.Disk} trio_view l.disks.items three)) next);
      fresh = subst AreNew (sym c.push_reserved.ensures.items) (all_more (λ (d : Disks g.row.D.Denot g.D.Disk). d.known ≡ false) l.disks.items three l.invariant.fresh taken.unopened);
      each = λ t. subst (TakesEach {G = g.D.Disk} before after) (sym c.push_reserved.ensures.items)
          (let size : l.number ≡ length l.disks.items = search (rules, arith) in
          takes_more_of_each before (g.R.Rack.view l.rack) after l.disks.items three (omega (arith, size)) (l.invariant.each t)
          (subst (λ n. TrioIsFrom (g.R.Rack.view l.rack) n three) size (taken.each t))
          (subst (λ n. LeavesOtherDisks n (g.R.Rack.view l.rack) after) size taken.other_disks));
      from = λ t. subst (AreFrom {D = Disks g.row.D.Denot g.D.Disk} trio_view before) (sym c.push_reserved.ensures.items)
          (each_more (λ k (d : Disks g.row.D.Denot g.D.Disk). AreAmong (trio_view d).images ((shelves_of before).holds k)) l.disks.items three (l.invariant.from t)
          (λ image left. subst (λ k. (shelves_of before).holds k image) (let size : l.number ≡ length l.disks.items = search (rules, arith) in size)
          (l.invariant.taken.above l.number (omega arith) image (taken.images t image left))));
    }

-- the disks that were taken so far went back as they were
pub returns-in-Err-clause-unwritten : goal.returns-in-Err-clause-unwritten
returns-in-Err-clause-unwritten g c t =
    let l = c.taking in
    let size : l.number ≡ length l.disks.items = search (rules, arith) in
    back_as_they_were (g.R.Rack.view c.args.rack.now) (g.R.Rack.view l.rack) (g.R.Rack.view c.take_trio.new.rack) (g.R.Rack.view c.give_all.new.rack)
    l.disks.items (omega (arith, size)) (l.invariant.each t) (c.in-Err.ensures.err_disks t) (c.give_all.ensures.each t)

pub returns-in-Err-clause-asked : goal.returns-in-Err-clause-asked
returns-in-Err-clause-asked g c =
    let l = c.taking in
    inl (asked_until c.args.count l.number (g.R.Rack.view c.args.rack.now) (g.R.Rack.view l.rack) (g.R.Rack.view c.take_trio.new.rack) (g.R.Rack.view c.give_all.new.rack)
    (omega arith) l.invariant.taken.taken.asked c.in-Err.ensures.asked c.give_all.ensures.back.asked)
