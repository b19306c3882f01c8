use Rattle.std.proofs.Common.{sym, ap, ◌∙◌, option_map}
use Rattle.machine_states.specs.Views.{suspended_of}
use Rattle.frame_codec.proofs.States.{found_is_spelled, none_has_these}
use Rattle.frame_codec.proofs.state.decode.Goals as goal

pub returns-in-Some-clause-spelled : goal.returns-in-Some-clause-spelled
returns-in-Some-clause-spelled c =
    let read = sym c.in_ok-state.ensures ∙ ap (λ o. option_map suspended_of o) c.in-Some.is in
    found_is_spelled c.args.script.now c.args.bytes.now (suspended_of c.in-Some.state) read (λ i. (c.type_inv.bytes i).fits)

pub returns-in-None-clause-none : goal.returns-in-None-clause-none
returns-in-None-clause-none c =
    let read = sym c.in_ok-state.ensures ∙ ap (λ o. option_map suspended_of o) c.in-None.is in
    λ e. none_has_these c.args.script.now c.args.bytes.now read
