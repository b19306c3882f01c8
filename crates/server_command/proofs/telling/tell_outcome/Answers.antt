use Rattle.std.proofs.Common.{◌≡◌, Err, rules, sym, subst}
use Rattle.server_command.specs.declared.serving.ServeFault.TheVariants as fault
use Rattle.server_command.specs.Output.{sinks_of}
use Rattle.server_command.specs.Telling.{TellsOutcome}
use Rattle.server_command.proofs.telling.tell_outcome.Goals as goal

pub returns-in-Err-Shelf-clause-tells : goal.returns-in-Err-Shelf-clause-tells
returns-in-Err-Shelf-clause-tells g c =
    let is : c.args.outcome ≡ Err (fault.Shelf c.in-Err-Shelf.fault) = search rules in
    subst (λ r. TellsOutcome r c.tell_unopened.result (sinks_of (g.O.Sink.view c.args.output.now) (g.O.Sink.view c.tell_unopened.new.output))) (sym is)
    c.tell_unopened.ensures.tells

pub returns-in-Err-Audit-clause-tells : goal.returns-in-Err-Audit-clause-tells
returns-in-Err-Audit-clause-tells g c =
    let is : c.args.outcome ≡ Err (fault.Audit c.in-Err-Audit.end) = search rules in
    subst (λ r. TellsOutcome r c.tell_end.result (sinks_of (g.O.Sink.view c.args.output.now) (g.O.Sink.view c.tell_end.new.output))) (sym is)
    c.tell_end.ensures.tells
