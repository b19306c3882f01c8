use Rattle.std.proofs.Common.{◌≡◌, ◌<◌, ◌^◌, ◌∙◌, ap, sym, ℕ, min, List, ◌∷◌, length, map, reverse, arith}
use Rattle.std.specs.List.{flat_map}
use Rattle.script_value.specs.Val.{Val}
use Rattle.value_bytes.specs.Spelling.{values_bytes, list_bytes}
use Rattle.machine_states.specs.Machine.{Frame}
use Rattle.machine_states.specs.declared.frame.Frame.{Frame as Stored}
use Rattle.machine_states.specs.Views.{frame_of, suspended_of}
use Rattle.frame_codec.specs.Spelling.{frame_bytes, shadow_bytes}
use Rattle.frame_codec.proofs.Order.{kept_order}
use Rattle.frame_codec.proofs.Parts.{cut_counted}
use Rattle.frame_codec.proofs.parted.Parted.of_state.Goals as goal

pub returns : goal.returns
returns c =
    let d = suspended_of c.args.state.now in
    let env = values_bytes d.env in
    let frames = flat_map frame_bytes (reverse d.frames) in
    let few : length c.args.bytes < 2 ^ 63 = omega (arith, c.if-prove.false, ap (λ (l : List ℕ). length l) c.as_slice-length.ensures) in
    let first : c.values_length-env.result ≡ min (length env) (2 ^ 63) =
    c.values_length-env.ensures ∙ ap (λ (vs : List Val). min (length (values_bytes vs)) (2 ^ 63)) c.as_slice.ensures in
    let second : c.frames_length-frames.result ≡ min (length frames) (2 ^ 63) =
    c.frames_length-frames.ensures
    ∙ (ap (λ (l : List Stored). min (length (flat_map frame_bytes (map frame_of l))) (2 ^ 63)) c.as_slice-2.ensures.value
    ∙ ap (λ (fs : List Frame). min (length (flat_map frame_bytes fs)) (2 ^ 63)) (sym (kept_order c.args.state.now.frames.items))) in
    c.cut.ensures
    ∙ cut_counted (0 ∷ env) (list_bytes frame_bytes (reverse d.frames)) (list_bytes shadow_bytes d.shadows) c.args.bytes 1 4 (length env) (length frames)
    c.values_length-env.result c.frames_length-frames.result c.saturating_add-frames_at.result c.saturating_add.result c.saturating_add-shadows_at.result
    c.requires few (omega arith) (omega arith) first second c.saturating_add-frames_at.ensures c.saturating_add.ensures c.saturating_add-shadows_at.ensures
