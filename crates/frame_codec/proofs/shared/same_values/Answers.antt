use Rattle.std.proofs.Common.{map, sym, ◌∙◌}
use Rattle.script_value.specs.Views.{meaning}
use Rattle.frame_codec.proofs.Fronts.{same_by}
use Rattle.frame_codec.proofs.shared.same_values.Goals as goal

pub returns-then-len : goal.returns-then-len
returns-then-len c =
    same_by c.args.values.now c.args.others.now (map meaning c.as_slice.result.now) (map meaning c.as_slice-then-len.result.now) c.shared_values.result
    c.len-then-len.result _ c.as_slice.ensures c.as_slice-then-len.ensures (sym c.len.ensures ∙ c.if-len.true ∙ c.len-2.ensures) c.len-then-len.ensures
    c.shared_values.ensures.shares
