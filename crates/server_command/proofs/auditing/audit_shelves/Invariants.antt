use Rattle.std.specs.Prelude.{◌&&◌}
use Rattle.server_command.specs.Auditing.{HaveAllPassed, LeavesShelves}
use Rattle.server_command.specs.Racks.{racks_of}
use Rattle.server_command.proofs.auditing.audit_shelves.Given as goal

abbrev pub invariant-auditing : goal.invariant-auditing
invariant-auditing g l = record {
  passed : HaveAllPassed (racks_of (g.R.Rack.tells && g.D.Disk.tells) (g.R.Rack.view l.fn.rack) (g.R.Rack.view l.rack)) l.shelf;
  leaves : LeavesShelves (racks_of (g.R.Rack.tells && g.D.Disk.tells) (g.R.Rack.view l.fn.rack) (g.R.Rack.view l.rack));
}
