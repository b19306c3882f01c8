use Rattle.kept_states.proofs.Told.{whole_spelled}
use Rattle.kept_states.proofs.form.told_whole.Goals as goal

pub returns-clause-spelled : goal.returns-clause-spelled
returns-clause-spelled c =
    whole_spelled c.forms_are_exact.ensures c.args.script.now c.args.bytes.now (λ i. (c.type_inv.bytes i).fits) c.decode_form.result c.decode_form.ensures
