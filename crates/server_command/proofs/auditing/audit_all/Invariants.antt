use Rattle.std.proofs.Common.{◌≤◌}
use Rattle.std.specs.Prelude.{◌&&◌}
use Rattle.server_command.specs.Auditing.{LeavesShelves}
use Rattle.server_command.specs.Racks.{racks_of}
use Rattle.server_command.proofs.Audits.{HasTold}
use Rattle.server_command.proofs.auditing.audit_all.Given as goal

abbrev pub invariant-auditing : goal.invariant-auditing
invariant-auditing g l = record {
  told : HasTold (racks_of (g.R.Rack.tells && g.D.Disk.tells) (g.R.Rack.view l.fn.rack) (g.R.Rack.view l.rack)) l.shelf
      (g.O.Sink.view l.fn.output).written (g.O.Sink.view l.output).written;
  leaves : LeavesShelves (racks_of (g.R.Rack.tells && g.D.Disk.tells) (g.R.Rack.view l.fn.rack) (g.R.Rack.view l.rack));
  later : (g.O.Sink.view l.fn.output).faults ≤ (g.O.Sink.view l.output).faults;
}
