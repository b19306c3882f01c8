use Rattle.std.proofs.Common.{◌≡◌, Err, rules, subst, arith}
use Rattle.std.specs.Prelude.{◌&&◌}
use Rattle.server_command.specs.Command.{Outputs, asked_of, met_of}
use Rattle.server_command.specs.Output.{sinks_of}
use Rattle.server_command.specs.Racks.{racks_of}
use Rattle.server_command.proofs.Causes.{came, unread_by, unread_came}
use Rattle.server_command.proofs.Endings.{at_rest}
use Rattle.server_command.proofs.Orders.{unread_asked}
use Rattle.server_command.proofs.jobs.run_job.Goals as goal

pub returns-in-Ok-clause-comes : goal.returns-in-Ok-clause-comes
returns-in-Ok-clause-comes g c = λ words door seeds.
    let rack = racks_of (g.R.Rack.tells && g.D.Disk.tells) (g.R.Rack.view c.args.rack.now) (g.R.Rack.view c.run_input.new.rack) in
    let out = sinks_of (g.O.Sink.view c.args.output.now) (g.O.Sink.view c.run_input.new.output) in
    let met = met_of words (g.I.Source.view c.args.input.now) (g.I.Source.view c.read_all.new.source) out rack door seeds in
    let left = subst (λ bytes. Outputs rack (asked_of c.args.job.now) bytes c.run_input.result out) c.deref.ensures.value c.run_input.ensures.outputs in
    came (asked_of c.args.job.now) c.run_input.result met c.in-Ok.bytes.items c.in-Ok.ensures.whole c.in-Ok.ensures.end
    (omega (arith, c.in-Ok.bytes.ok.0, c.in-Ok.ensures.within)) left

pub returns-in-Err-clause-comes : goal.returns-in-Err-clause-comes
returns-in-Err-clause-comes g c = λ words door seeds.
    let is : c.read_all.result ≡ Err c.in-Err.fault = search rules in
    unread_came _ _ _ c.in-Err.fault c.tell_unread.ensures.status
    (unread_by _ c.read_all.result c.in-Err.fault is c.tell_unread.ensures.line c.read_all.ensures.long c.read_all.ensures.failed c.read_all.ensures.short c.read_all.ensures.front
    (at_rest _ _))
    (at_rest _ _)

pub returns-in-Err-clause-asked : goal.returns-in-Err-clause-asked
returns-in-Err-clause-asked g c = unread_asked _ (asked_of c.args.job.now) c.in-Err.fault c.tell_unread.result c.tell_unread.ensures.status (at_rest _ _)
