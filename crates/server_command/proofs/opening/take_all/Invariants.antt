use Rattle.std.proofs.Common.{◌≡◌, ◌≤◌}
use Rattle.std.specs.Prelude.{IsTrue, ◌&&◌, vec_len, vec_capacity}
use Rattle.disk_trio.specs.Trio.{trio_view}
use Rattle.disk_trio.specs.declared.trio.Disks.{Disks}
use Rattle.trio_rack.specs.Each.{TakesEach}
use Rattle.site_serving.specs.Shelves.{AreNew}
use Rattle.server_command.specs.Opening.{AreFrom, seen_on}
use Rattle.server_command.proofs.Openings.{TakesUpTo}
use Rattle.server_command.proofs.opening.take_all.Given as goal

abbrev pub invariant-taking : goal.invariant-taking
invariant-taking g l = record {
  size : vec_len l.disks ≡ l.number;
  room : l.fn.count ≤ vec_capacity l.disks;
  taken : TakesUpTo (IsTrue (g.R.Rack.tells && g.D.Disk.tells)) (g.R.Rack.view l.fn.rack) (g.R.Rack.view l.rack) l.number
      (seen_on {D = Disks g.row.D.Denot g.D.Disk} trio_view l.disks.items);
  fresh : AreNew l.disks.items;
  each : IsTrue g.R.Rack.tells → TakesEach {G = g.D.Disk} (g.R.Rack.view l.fn.rack) (g.R.Rack.view l.rack) l.disks.items;
  from : IsTrue g.R.Rack.tells → AreFrom {D = Disks g.row.D.Denot g.D.Disk} trio_view (g.R.Rack.view l.fn.rack) l.disks.items;
}
