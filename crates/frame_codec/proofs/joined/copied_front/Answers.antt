use Rattle.std.proofs.Common.{List, ap, ◌∙◌, take}
use Rattle.machine_states.specs.declared.frame.Frame.{Frame}
use Rattle.frame_codec.proofs.Firsts.{frames_taken}
use Rattle.frame_codec.proofs.joined.copied_front.Goals as goal

pub returns : goal.returns
returns c =
    let k = c.args.need.frames in
    let items = c.in_ok-front_frames.ensures ∙ ap (λ (fs : List Frame). take k fs) c.as_slice.ensures.value in
    let frames = frames_taken c.args.state.now.frames.items c.in_ok-front_frames.field-0.items k items in
    λ i. record { env = c.in_ok-front_values.ensures i; frames = frames i; shadows = c.in_ok-try_clone.ensures i }
