use Rattle.std.proofs.Common.{◌≡◌, rules, arith, true, map}
use Rattle.std.proofs.lemmas.Result.{err_from_is_err_and}
use Rattle.script_value.specs.Val.{vals_of}
use Rattle.script_value.specs.Views.{meaning}
use Rattle.page_spec.specs.Markup.{is_element}
use Rattle.page_spec.specs.Page as spec
use Rattle.xexpr_page.proofs.Pushed.{child_more, child_none, child_depth, element_written, void_pushed, element_pushed, handed_on, first_item}
use Rattle.xexpr_page.proofs.page.+page.Goals as goal

pub push_children-push_page-requires : goal.push_children-push_page-requires
push_children-push_page-requires t c =
    let here = child_depth c.args.children.now c.loop-child.child-index c.child-item.result (omega arith) c.child-item.is in
    (omega (arith, here, c.decreases), tt)

pub push_children-loop-child-preserved : goal.push_children-loop-child-preserved
push_children-loop-child-preserved t c =
    child_more c.args.page.now.items c.loop-child.page.items c.push_page.new.page.items c.args.children.now c.loop-child.child-index c.child-item.result
    (omega arith) c.child-item.is c.loop-child.invariant c.in_ok-push_page.ensures

pub push_children-returns-in_err-push_page : goal.push_children-returns-in_err-push_page
push_children-returns-in_err-push_page t c =
    let p = err_from_is_err_and c.from_residual.result c.from_residual.ensures.1 in
    rw (p.1, p.2)
    (handed_on c.in_err-push_page.field-0.0 c.args.page.now.items c.loop-child.page.items c.push_page.new.page.items
    (spec.page_of (meaning c.child-item.result)) (spec.children_of (vals_of (map meaning c.args.children.now))) c.in_err-push_page.ensures
    (child_none c.args.page.now.items c.loop-child.page.items c.args.children.now c.loop-child.child-index c.child-item.result (omega arith) c.child-item.is c.loop-child.invariant))

pub push_element-returns : goal.push_element-returns
push_element-returns t c =
    let named : is_element c.args.name.now ≡ true = search rules in
    rw (c.split_attributes.ensures.split c.args.name.now, c.in_ok-push_end.ensures)
    (element_written c.args.page.now.items c.push_start.new.page.items c.push_children.new.page.items c.args.name.now
    (spec.attributes_of (vals_of (map meaning c.split_attributes.result.0.now)))
    (spec.children_of (vals_of (map meaning c.split_attributes.result.1.now))) named c.in_ok-push_start.ensures c.in_ok-push_children.ensures)

pub push_named-returns-else-is_void : goal.push_named-returns-else-is_void
push_named-returns-else-is_void t c =
    rw c.in-Symbol.is
    (element_pushed c.push_element.result c.args.page.now.items c.push_element.new.page.items c.in-Symbol.name (vals_of (map meaning c.args.parts.now))
    (search rules) c.push_element.ensures)

pub push_named-returns-then-is_void : goal.push_named-returns-then-is_void
push_named-returns-then-is_void t c =
    rw c.in-Symbol.is
    (void_pushed c.push_void.result c.args.page.now.items c.push_void.new.page.items c.in-Symbol.name (vals_of (map meaning c.args.parts.now)) (search rules) c.push_void.ensures)

pub push_list-returns-in-len1-up : goal.push_list-returns-in-len1-up
push_list-returns-in-len1-up t c =
    let parts = first_item c.args.items.now c.first-item.result c.in-len1-up.len_at_least c.first-item.is in
    rw parts c.push_named.ensures
