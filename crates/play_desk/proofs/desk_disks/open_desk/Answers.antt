use Rattle.std.proofs.Common.{arith}
use Rattle.disk_trio.specs.Trio.{trio_view}
use Rattle.play_desk.proofs.Beginning.{desk_opened, fit_opened}
use Rattle.play_desk.proofs.Owning.{own_alone}
use Rattle.play_desk.proofs.desk_disks.open_desk.Goals as goal

pub returns-in-Ok-clause-desk : goal.returns-in-Ok-clause-desk
returns-in-Ok-clause-desk g c rack_tells disk_tells =
    desk_opened _ _ _ _ _ _ _ _ _ c.no_tickets.result c.in-Ok.ensures.opened rack_tells disk_tells c.no_tickets.ensures

pub returns-in-Ok-clause-sound : goal.returns-in-Ok-clause-sound
returns-in-Ok-clause-sound g c = record {
  read = c.requires.read;
  fit = fit_opened _ _ _ _ _ _ _ _ _ c.no_tickets.result c.in-Ok.ensures.opened (omega (arith, c.requires.range.shelves)) c.no_tickets.ensures;
}

pub returns-in-Ok-clause-own : goal.returns-in-Ok-clause-own
returns-in-Ok-clause-own g c rack_tells disk_tells =
    own_alone trio_view g.F.Disk.tells c.in-Ok.shelves.items c.no_tickets.result
    (c.in-Ok.ensures.opened.own rack_tells disk_tells) c.no_tickets.ensures
