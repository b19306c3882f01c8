use Rattle.std.proofs.Common.{◌≡◌, ◌+◌, ◌*◌, map, drop}
use Rattle.std.specs.Prelude.{is_some}
use Rattle.script_value.specs.Val.{vals_of, depth, depth_all}
use Rattle.script_value.specs.Views.{meaning}
use Rattle.page_spec.specs.Page.{children_of}
use Rattle.xexpr_page.proofs.shape.+is_page.Given as goal

abbrev pub decreases-is_page : goal.decreases-is_page
decreases-is_page l = 5 * depth (meaning l.value.now)

abbrev pub decreases-is_list_page : goal.decreases-is_list_page
decreases-is_list_page l = 5 * depth_all (vals_of (map meaning l.items.now)) + 4

abbrev pub decreases-is_named_page : goal.decreases-is_named_page
decreases-is_named_page l = 5 * depth_all (vals_of (map meaning l.parts.now)) + 3

abbrev pub decreases-is_element_page : goal.decreases-is_element_page
decreases-is_element_page l = 5 * depth_all (vals_of (map meaning l.parts.now)) + 2

abbrev pub decreases-are_pages : goal.decreases-are_pages
decreases-are_pages l = 5 * depth_all (vals_of (map meaning l.children.now)) + 1

abbrev pub invariant-are_pages-loop-child : goal.invariant-are_pages-loop-child
invariant-are_pages-loop-child l =
    is_some (children_of (vals_of (map meaning l.children))) ≡ is_some (children_of (vals_of (map meaning (drop l.child-index l.children))))
