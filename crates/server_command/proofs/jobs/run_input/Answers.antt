use Rattle.std.proofs.Common.{◌≡◌, Err, rules}
use Rattle.setup_reader.specs.Setup.{setup_of}
use Rattle.setup_reader.specs.Views.{fault_of}
use Rattle.server_command.specs.Command.{asked_of}
use Rattle.server_command.specs.Output.{ending_of}
use Rattle.server_command.proofs.Endings.{at_rest, early, fault_outputs, untouched}
use Rattle.server_command.proofs.Causes.{job_reads}
use Rattle.server_command.proofs.Orders.{fault_asked, unheld_asked}
use Rattle.server_command.proofs.jobs.run_input.Goals as goal

pub returns-in-Err-At-clause-outputs : goal.returns-in-Err-At-clause-outputs
returns-in-Err-At-clause-outputs g c =
    let is : setup_of (ending_of (asked_of c.args.job.now)) c.args.input.now ≡ Err (fault_of c.in-Err-At.error) = search rules in
    fault_outputs _ (asked_of c.args.job.now) (job_reads c.args.job.now) c.args.input.now (fault_of c.in-Err-At.error) c.tell_fault.result _ is c.tell_fault.ensures.line
    (at_rest _ _)

pub returns-in-Err-Memory-clause-outputs : goal.returns-in-Err-Memory-clause-outputs
returns-in-Err-Memory-clause-outputs g c = early _ _ _ _ _ _ _ _ c.no_memory.ensures.status c.no_memory.ensures.line
    (λ settles. untouched _ _ (asked_of c.args.job.now) _)

pub returns-in-Err-At-clause-asked : goal.returns-in-Err-At-clause-asked
returns-in-Err-At-clause-asked g c =
    fault_asked _ (asked_of c.args.job.now) (fault_of c.in-Err-At.error) c.tell_fault.result _ c.tell_fault.ensures.line (at_rest _ _)

pub returns-in-Err-Memory-clause-asked : goal.returns-in-Err-Memory-clause-asked
returns-in-Err-Memory-clause-asked g c = unheld_asked _ (asked_of c.args.job.now) c.no_memory.result c.no_memory.ensures.status (at_rest _ _)
