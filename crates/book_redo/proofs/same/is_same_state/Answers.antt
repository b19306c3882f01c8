use Rattle.std.proofs.Common.{◌∙◌, ap, sym, map}
use Rattle.machine_states.specs.Machine as machine
use Rattle.machine_states.specs.Views.{frame_of}
use Rattle.book_redo.proofs.SameStates.{frames_of_state}
use Rattle.book_redo.proofs.same.is_same_state.Goals as goal
use Rattle.book_redo.proofs.same.is_same_state.Goals.{then-same_values, else-same_values}

pub returns-else-are_same_frames : goal.returns-else-are_same_frames
returns-else-are_same_frames c =
    let d = c.args.left.now in
    let e = c.args.right.now in (
      λ t. absurd (let both = sym t ∙ c.if-are_same_frames.false in let no : ⊥ = cc in no),
      λ same.
          elim c.if-same_values.branch [
            | then-same_values w ↦
                let frames = ap (map frame_of) w.as_slice.ensures.value ∙ (frames_of_state d e same ∙ sym (ap (map frame_of) w.as_slice-then-same_values.ensures.value)) in
                w.value-is ∙ w.are_same_frames.ensures.1 frames
            | else-same_values w ↦
                let yes = c.same_values.ensures.1 (ap (λ (x : machine.Suspended). x.env) same) in absurd (let both = sym yes ∙ w.if-same_values.false in let no : ⊥ = cc in no)
          ],
    )
