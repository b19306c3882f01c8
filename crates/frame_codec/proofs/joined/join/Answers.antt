use Rattle.std.proofs.Common.{◌++◌, List, ap, ◌∙◌}
use Rattle.script_value.specs.Val.{Val}
use Rattle.machine_states.specs.declared.frame.Frame.{Frame}
use Rattle.frame_codec.proofs.Differences.{frames_joined}
use Rattle.frame_codec.proofs.joined.join.Goals as goal

pub returns : goal.returns
returns c =
    let p = c.args.parent in
    let d = c.args.delta in
    let env = c.in_ok-append.ensures.ok ∙ ap (λ (vs : List Val). vs ++ d.env) c.truncate.ensures in
    let items = c.in_ok-append-2.ensures.items ∙ ap (λ (fs : List Frame). fs ++ d.frames.items) c.truncate-2.ensures.items in
    let frames = frames_joined p.frames.items d.frames.items c.append-2.new.self.items d.frames_shared items in
    λ i. record { env = env i; frames = frames i; shadows = c.in_ok-shades.ensures i }
