use Rattle.std.proofs.Common.{◌++◌, List, map, take, sym, ap, ◌∙◌}
use Rattle.std.proofs.lemmas.List.{take-map}
use Rattle.script_value.specs.Val.{Val}
use Rattle.script_value.specs.Views.{meaning}
use Rattle.frame_codec.proofs.joined.front_values.Goals as goal

pub returns : goal.returns
returns c =
    c.in_ok-add_values.ensures ∙ (λ i. c.new-copies.ensures i ++ map meaning (c.front.ensures i))
    ∙ sym (take-map meaning c.args.count c.as_slice.result.now) ∙ ap (λ (l : List Val). take c.args.count l) c.as_slice.ensures
