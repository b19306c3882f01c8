use Rattle.std.proofs.Common.{sym, ap, ◌∙◌, ◌-◌, map, take, drop, length, List}
use Rattle.script_value.specs.Views.{meaning}
use Rattle.script_value.specs.declared.value.Value.{Value}
use Rattle.core_syntax.specs.Definitions.{expanded_from}
use Rattle.core_syntax.specs.DefinitionsSeen.{cells_of}
use Rattle.core_syntax.proofs.Parts.{split_off}
use Rattle.core_syntax.proofs.Forming.{total, starts_level, next_form}
use Rattle.core_syntax.proofs.forms.define_all.Goals as goal

pub loop-left-init : goal.loop-left-init
loop-left-init c = starts_level (cells_of c.args.defined.now) (map meaning c.args.forms.now) c.requires

pub loop-left-preserved : goal.loop-left-preserved
loop-left-preserved c =
    let s = cells_of c.loop-left.defined in
    let t = cells_of c.define_form.new.self in
    let left = c.loop-left.left.now in
    let v = c.form-item.result in
    let split = split_off left v c.form-item.is c.in-len1-up.len_at_least in
    let next = next_form (meaning v) (map meaning (take (length left - 1) (drop 1 left))) s t c.loop-left.invariant.0
    (sym c.is_definition.ensures ∙ c.if-not-is_definition.false) c.in-Ok.ensures in
    (next.0.stays, c.loop-left.invariant.1 ∙ (ap (λ (xs : List Value). expanded_from (total s) s (map meaning xs)) split ∙ next.1))
