use Rattle.std.proofs.Common.{ap, arith}
use Rattle.script_value.specs.Val.{weight}
use Rattle.script_value.specs.Views.{meaning}
use Rattle.core_syntax.proofs.Parts.{item_weight}
use Rattle.core_syntax.proofs.templates.+template.Goals as goal

pub are_templates-is_item-requires : goal.are_templates-is_item-requires
are_templates-is_item-requires t c =
    let within = item_weight c.args.items.now c.loop-item.item-index c.item-item.result (omega arith) in
    let here = ap (λ v. weight (meaning v)) c.item-item.is in
    (omega (arith, within, here, c.decreases), tt)
