use Rattle.std.proofs.Common.{◌≡◌, ◌+◌, ◌*◌, map, drop}
use Rattle.script_value.specs.Val.{vals_of, depth, depth_all}
use Rattle.script_value.specs.Views.{meaning}
use Rattle.page_spec.specs.Page.{children_of, appended}
use Rattle.xexpr_page.proofs.page.+page.Given as goal

abbrev pub decreases-push_page : goal.decreases-push_page
decreases-push_page l = 5 * depth (meaning l.value.now)

abbrev pub decreases-push_list : goal.decreases-push_list
decreases-push_list l = 5 * depth_all (vals_of (map meaning l.items.now)) + 4

abbrev pub decreases-push_named : goal.decreases-push_named
decreases-push_named l = 5 * depth_all (vals_of (map meaning l.parts.now)) + 3

abbrev pub decreases-push_element : goal.decreases-push_element
decreases-push_element l = 5 * depth_all (vals_of (map meaning l.parts.now)) + 2

abbrev pub decreases-push_children : goal.decreases-push_children
decreases-push_children l = 5 * depth_all (vals_of (map meaning l.children.now)) + 1

abbrev pub invariant-push_children-loop-child : goal.invariant-push_children-loop-child
invariant-push_children-loop-child l =
    appended l.fn.page.items (children_of (vals_of (map meaning l.children)))
    ≡ appended l.page.items (children_of (vals_of (map meaning (drop l.child-index l.children))))
