use Rattle.std.specs.Prelude.{IsTrue, ◌&&◌, vec_len}
use Rattle.disk_trio.specs.Trio.{trio_view}
use Rattle.disk_trio.specs.declared.trio.Disks.{Disks}
use Rattle.trio_rack.proofs.Each.{GivesLast}
use Rattle.server_command.proofs.Giving.{GivenAll}
use Rattle.server_command.proofs.opening.give_all.Given as goal

abbrev pub invariant-giving : goal.invariant-giving
invariant-giving g l = record {
  given : GivenAll {D = Disks g.row.D.Denot g.D.Disk} trio_view (IsTrue (g.R.Rack.tells && g.D.Disk.tells)) l.fn.disks.items l.disks.items
      (g.R.Rack.view l.fn.rack) (g.R.Rack.view l.rack);
  each : IsTrue g.R.Rack.tells → GivesLast {G = g.D.Disk} (g.R.Rack.view l.fn.rack) (g.R.Rack.view l.rack) l.fn.disks.items l.disks.items;
}

abbrev pub decreases-giving : goal.decreases-giving
decreases-giving g l = vec_len l.disks
