use Rattle.std.proofs.Common.{Ok, subst, sym}
use Rattle.std.specs.Prelude.{◌&&◌}
use Rattle.setup_reader.specs.Views.{parsed_of}
use Rattle.server_command.specs.Command.{OutputsFor, asked_of}
use Rattle.server_command.specs.Order.{AsksRack}
use Rattle.server_command.specs.Output.{sinks_of}
use Rattle.server_command.specs.Racks.{racks_of}
use Rattle.server_command.proofs.Endings.{at_rest, counts_outputs}
use Rattle.server_command.proofs.jobs.run_setup.Goals as goal

pub returns-in-Check-clause-outputs : goal.returns-in-Check-clause-outputs
returns-in-Check-clause-outputs g c =
    let rack = racks_of (g.R.Rack.tells && g.D.Disk.tells) (g.R.Rack.view c.args.rack.now) (g.R.Rack.view c.args.rack.now) in
    let out = sinks_of (g.O.Sink.view c.args.output.now) (g.O.Sink.view c.tell_count.new.output) in
    subst (λ j. OutputsFor rack (asked_of j) (Ok (parsed_of c.args.parsed)) c.tell_count.result out) (sym c.in-Check.is)
    (λ bytes h. counts_outputs rack bytes (parsed_of c.args.parsed) c.tell_count.result out h c.tell_count.ensures.outputs (at_rest _ _))

pub returns-in-Check-clause-asked : goal.returns-in-Check-clause-asked
returns-in-Check-clause-asked g c =
    let rack = racks_of (g.R.Rack.tells && g.D.Disk.tells) (g.R.Rack.view c.args.rack.now) (g.R.Rack.view c.args.rack.now) in
    subst (λ j. AsksRack rack (asked_of j) c.tell_count.result) (sym c.in-Check.is) (at_rest _ _)
