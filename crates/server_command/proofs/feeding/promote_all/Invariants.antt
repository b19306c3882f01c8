use Rattle.std.proofs.Common.{◌≤◌}
use Rattle.std.specs.Prelude.{◌&&◌}
use Rattle.disk_trio.specs.Trio.{trio_view}
use Rattle.server_command.specs.Racks.{racks_of}
use Rattle.server_command.proofs.Promotes.{HasTold}
use Rattle.server_command.proofs.feeding.promote_all.Given as goal

abbrev pub invariant-promoting : goal.invariant-promoting
invariant-promoting g l = record {
  told : HasTold (trio_view {G = g.D.Disk}) (racks_of (g.R.Rack.tells && g.D.Disk.tells) (g.R.Rack.view l.fn.rack) (g.R.Rack.view l.rack)) l.shelf
      (g.O.Sink.view l.fn.output).written (g.O.Sink.view l.output).written;
  later : (g.O.Sink.view l.fn.output).faults ≤ (g.O.Sink.view l.output).faults;
}
