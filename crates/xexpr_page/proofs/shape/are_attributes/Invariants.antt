use Rattle.std.proofs.Common.{◌≡◌, map, drop}
use Rattle.std.specs.Prelude.{is_some}
use Rattle.script_value.specs.Val.{vals_of}
use Rattle.script_value.specs.Views.{meaning}
use Rattle.page_spec.specs.Page.{attributes_of}
use Rattle.xexpr_page.proofs.shape.are_attributes.Given as goal

abbrev pub invariant-loop-item : goal.invariant-loop-item
invariant-loop-item l =
    is_some (attributes_of (vals_of (map meaning l.items))) ≡ is_some (attributes_of (vals_of (map meaning (drop l.item-index l.items))))
