use Rattle.std.proofs.Common.{◌∙◌, ap, sym, ◌++◌, ◌∷◌, [], List, slice_set}
use Rattle.script_nodes.specs.Setup.{Named}
use Rattle.script_nodes.specs.Views.{named_of, scripts_of}
use Rattle.play_desk.proofs.Places.{take_more}
use Rattle.play_desk.proofs.editing.with_script.Goals as goal

pub loop-other-preserved : goal.loop-other-preserved
loop-other-preserved c =
    let xs = slice_set (scripts_of c.args.setup.now) c.args.place (named_of c.args.script.now) in
    let x = named_of c.in_ok-script_at.field-0 in
    c.in_ok-push.ensures.pushed ∙ ap (λ (ss : List Named). ss ++ x ∷ []) c.loop-other.invariant
    ∙ sym (take_more xs c.loop-other.other x c.in_ok-script_at.ensures)
