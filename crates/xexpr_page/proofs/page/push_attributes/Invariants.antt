use Rattle.std.proofs.Common.{◌≡◌, map, drop}
use Rattle.script_value.specs.Val.{vals_of}
use Rattle.script_value.specs.Views.{meaning}
use Rattle.page_spec.specs.Page.{attributes_of, appended}
use Rattle.xexpr_page.proofs.page.push_attributes.Given as goal

abbrev pub invariant-loop-attribute : goal.invariant-loop-attribute
invariant-loop-attribute l =
    appended l.fn.page.items (attributes_of (vals_of (map meaning l.attributes)))
    ≡ appended l.page.items (attributes_of (vals_of (map meaning (drop l.attribute-index l.attributes))))
