use Rattle.std.proofs.Common.{refl}
use Rattle.frame_codec.specs.MachineStates.Views.{suspended_of}
use Rattle.frame_codec.specs.DeltaViews.{delta_of}
use Rattle.kept_states.proofs.form.Form.behind.Goals as goal

pub spell_delta-requires : goal.spell_delta-requires
spell_delta-requires c =
    c.each_delta_has_bytes.ensures (suspended_of c.args.parent.now) (suspended_of c.args.state.now) (delta_of c.in_ok-delta.delta)
    (c.if-can_differ.ensures.0 refl).0 c.in_ok-delta.ensures.delta
