use Rattle.std.proofs.Common.{List, map, length, sym, ◌∙◌, ap, refl}
use Rattle.std.proofs.lemmas.Bool.{false≢true}
use Rattle.script_value.specs.Val.{Val}
use Rattle.script_value.specs.Views.{meaning}
use Rattle.web_cells.specs.Views.{pair_of}
use Rattle.machine_states.specs.declared.frame.Frame.{Frame}
use Rattle.machine_states.specs.Views.{frame_of, suspended_of}
use Rattle.frame_codec.proofs.Order.{kept_order}
use Rattle.frame_codec.proofs.Differences.{unfitting, fitting_so}
use Rattle.frame_codec.proofs.delta_bytes.is_stored.Goals as goal

pub returns-then-not-frames_fit : goal.returns-then-not-frames_fit
returns-then-not-frames_fit c =
    let frames = ap (λ (fs : List Frame). map frame_of fs) c.as_slice-2.ensures.value ∙ sym (kept_order c.args.state.now.frames.items) in (
      λ t. absurd (false≢true t),
      λ s. absurd (unfitting c.args.script.now (suspended_of c.args.state.now) (map meaning c.as_slice.result.now) (map frame_of c.as_slice-2.result.now)
          c.frames_fit.result c.as_slice.ensures frames c.frames_fit.ensures c.if-not-frames_fit.true s),
    )

pub returns : goal.returns
returns c =
    let frames = ap (λ (fs : List Frame). map frame_of fs) c.as_slice-2.ensures.value ∙ sym (kept_order c.args.state.now.frames.items) in
    fitting_so c.args.script.now (suspended_of c.args.state.now) (map meaning c.as_slice.result.now) (map frame_of c.as_slice-2.result.now)
    (map pair_of c.as_slice-3.result.now) c.len.result c.frames_fit.result c.shadows_fit.result c.as_slice.ensures frames c.as_slice-3.ensures
    (c.len.ensures ∙ ap (λ (l : List Val). length l) c.web_defaults.ensures) (c.if-not-is_spelled.ensures.0 refl) c.frames_fit.ensures c.if-not-frames_fit.false
    c.shadows_fit.ensures
