use Rattle.std.proofs.Common.{◌∙◌}
use Rattle.server_command.proofs.Loads.{measure_told}
use Rattle.server_command.proofs.loading.tell_measure.Goals as goal

pub returns-in-Ok-write_all-clause-outputs : goal.returns-in-Ok-write_all-clause-outputs
returns-in-Ok-write_all-clause-outputs g c =
    measure_told c.args.measure.now _ _ _ _ _ _ _ _ (c.as_bytes.ensures.value ∙ c.in-Ok.ensures) c.in-Ok-write_all.ensures.ok c.hand_on.ensures.same
    c.in-Ok-write_all.ensures.cause.later c.hand_on.ensures.status
