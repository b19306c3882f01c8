use Rattle.std.proofs.Common.{◌≡◌, rules, arith, true, false, map, ◌∙◌}
use Rattle.std.specs.Prelude.{is_some}
use Rattle.script_value.specs.Val.{vals_of}
use Rattle.script_value.specs.Views.{meaning}
use Rattle.page_spec.specs.Markup.{is_element, is_void}
use Rattle.page_spec.specs.Page as spec
use Rattle.xexpr_page.proofs.Pushed.{child_depth, first_item}
use Rattle.xexpr_page.proofs.Shaped.{child_is_page, no_element, some_element, named_element}
use Rattle.xexpr_page.proofs.shape.+is_page.Goals as goal

pub are_pages-is_page-requires : goal.are_pages-is_page-requires
are_pages-is_page-requires t c =
    let here = child_depth c.args.children.now c.loop-child.child-index c.child-item.result (omega arith) c.child-item.is in
    (omega (arith, here, c.decreases), tt)

pub are_pages-loop-child-preserved : goal.are_pages-loop-child-preserved
are_pages-loop-child-preserved t c =
    let page : is_some (spec.page_of (meaning c.child-item.result)) ≡ true = search rules in
    c.loop-child.invariant ∙ child_is_page c.args.children.now c.loop-child.child-index c.child-item.result (omega arith) c.child-item.is page

pub is_element_page-returns-then-not-are_attributes : goal.is_element_page-returns-then-not-are_attributes
is_element_page-returns-then-not-are_attributes t c =
    let named : is_element c.args.name.now ≡ true = search rules in
    let none : is_some (spec.attributes_of (vals_of (map meaning c.split_attributes.result.0.now))) ≡ false = search rules in
    rw (c.split_attributes.ensures.split c.args.name.now)
    (no_element c.args.name.now (spec.attributes_of (vals_of (map meaning c.split_attributes.result.0.now)))
    (spec.children_of (vals_of (map meaning c.split_attributes.result.1.now))) named none)

pub is_element_page-returns : goal.is_element_page-returns
is_element_page-returns t c =
    let named : is_element c.args.name.now ≡ true = search rules in
    let some : is_some (spec.attributes_of (vals_of (map meaning c.split_attributes.result.0.now))) ≡ true = search rules in
    rw (c.split_attributes.ensures.split c.args.name.now)
    (c.are_pages.ensures
    ∙ some_element c.args.name.now (spec.attributes_of (vals_of (map meaning c.split_attributes.result.0.now)))
    (spec.children_of (vals_of (map meaning c.split_attributes.result.1.now))) named some)

pub is_list_page-returns-in-len1-up : goal.is_list_page-returns-in-len1-up
is_list_page-returns-in-len1-up t c =
    let parts = first_item c.args.items.now c.first-item.result c.in-len1-up.len_at_least c.first-item.is in
    rw parts c.is_named_page.ensures

pub is_named_page-returns-else-is_void : goal.is_named_page-returns-else-is_void
is_named_page-returns-else-is_void t c =
    let other : is_void c.in-Symbol.name ≡ false = search rules in
    rw c.in-Symbol.is (c.is_element_page.ensures ∙ named_element c.in-Symbol.name (vals_of (map meaning c.args.parts.now)) other)
