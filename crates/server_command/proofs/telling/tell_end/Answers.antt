use Rattle.std.proofs.Common.{subst}
use Rattle.web_outside.specs.Pieces.{AppendsUnlessFault}
use Rattle.server_command.specs.Auditing.{told}
use Rattle.server_command.proofs.telling.tell_end.Goals as goal

pub returns-in-Ok-clause-tells : goal.returns-in-Ok-clause-tells
returns-in-Ok-clause-tells g c =
    let old = g.O.Sink.view c.args.output.now in
    let new = g.O.Sink.view c.write_or_drop.new.sink in
    told _ c.in-Ok.ensures c.end_status.ensures
    (subst (λ line. AppendsUnlessFault old.written new.written line old.faults new.faults) c.as_bytes.ensures.value c.write_or_drop.ensures.written)
