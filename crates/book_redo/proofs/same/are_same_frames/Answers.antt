use Rattle.std.proofs.Common.{map, sym, ◌∙◌, refl, length}
use Rattle.std.proofs.lemmas.List.{length-map}
use Rattle.machine_states.specs.Views.{frame_of}
use Rattle.frame_codec.proofs.Fronts.{same_by}
use Rattle.book_redo.proofs.same.are_same_frames.Goals as goal

pub returns-then-left-right : goal.returns-then-left-right
returns-then-left-right c =
    let left = c.args.left.now in
    let right = c.args.right.now in
    let many = length-map right frame_of in
    same_by (map frame_of left) (map frame_of right) (map frame_of left) (map frame_of right) c.shared_frames.result (length right) _ refl refl
    (length-map left frame_of ∙ (c.if-left-right.true ∙ sym many)) (sym many) c.shared_frames.ensures.shares
