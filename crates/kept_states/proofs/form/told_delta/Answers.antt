use Rattle.std.proofs.Common.{◌-◌, length, get_or, take, drop, refl}
use Rattle.kept_states.proofs.Told.{delta_told, delta_is, begins_with}
use Rattle.kept_states.proofs.form.told_delta.Goals as goal

pub returns-clause-spelled : goal.returns-clause-spelled
returns-clause-spelled c =
    let a = c.args.script.now in
    let p = c.args.parent.now in
    let bytes = c.args.bytes.now in
    let rest = take (length bytes - 1) (drop 1 bytes) in
    let same = begins_with bytes (get_or bytes 0 0) 0 c.in-len1-up.len_at_least refl c.if-form-ne-BEHIND.false in
    delta_is c.forms_are_exact.ensures a p bytes rest (λ i. (c.type_inv.bytes i).fits) c.requires c.decode_delta.result same
    (delta_told a p bytes rest c.decode_delta.result same c.requires c.decode_delta.ensures.read) c.decode_delta.ensures.spelled
