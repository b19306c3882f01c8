use Rattle.std.proofs.Common.{ap, arith, sym, ◌∙◌, map, refl}
use Rattle.std.proofs.lemmas.Result.{err_from_is_err_and}
use Rattle.core_syntax.specs.Forms.{choose, core_of, if_form}
use Rattle.core_syntax.specs.Names.{◌>>=◌}
use Rattle.core_syntax.specs.RowCores.{both}
use Rattle.core_syntax.specs.Views.{if_parts}
use Rattle.core_syntax.specs.Trees.{pair_of}
use Rattle.script_nodes.proofs.Places.{map_behind}
use Rattle.core_syntax.proofs.Choices.{both_first, both_stop, choices_next, clause_stops, gives_same}
use Rattle.script_value.specs.Val.{weight}
use Rattle.script_value.specs.Views.{meaning, meanings}
use Rattle.script_value.specs.declared.value.Value.{Value}
use Rattle.core_syntax.proofs.Filling.{splice_filled, part_stops, part_given, gives_too, unquote_is, joined_is, list_is, item_added, item_counted, item_stops, items_end, items_given}
use Rattle.core_syntax.specs.Filling.{trees_of, has_no_tree, items_filled}
use Rattle.core_syntax.specs.Shapes.{begins}
use Rattle.std.specs.Prelude.{Ok, codes, option_map}
use Rattle.core_syntax.proofs.Parts.{item_weight, split_off, exactly_two}
use Rattle.core_syntax.specs.RowsSeen.{row_seen}
use Rattle.core_syntax.proofs.ByRow.{row_stops, row_goes_on, part_of_form}
use Rattle.core_syntax.proofs.read.Reader.+read.Goals as goal

pub read-read_row-requires : goal.read-read_row-requires
read-read_row-requires t c =
    let light = part_of_form c.args.self.now.cells.now c.args.self.now.scope c.args.in_page (meaning c.args.form.now) (row_seen c.in_ok-row.row) c.in_ok-row.ensures in
    (omega (arith, light, c.decreases), tt)

pub read-returns-in_err-row-clause-tree : goal.read-returns-in_err-row-clause-tree
read-returns-in_err-row-clause-tree t c =
    let p = err_from_is_err_and c.from_residual.result c.from_residual.ensures.1 in
    row_stops c.args.self.now.cells.now c.args.self.now.scope c.args.in_page (meaning c.args.form.now) c.from_residual.result p.0 c.in_err-row.field-0.0 p.1 p.2 c.in_err-row.ensures

pub read-returns-clause-tree : goal.read-returns-clause-tree
read-returns-clause-tree t c =
    gives_same c.read_row.result _ _ (row_goes_on c.args.self.now.cells.now c.args.self.now.scope c.args.in_page (meaning c.args.form.now) (row_seen c.in_ok-row.row) c.in_ok-row.ensures) c.read_row.ensures.tree

pub read_if-returns-in_err-choices-clause-tree : goal.read_if-returns-in_err-choices-clause-tree
read_if-returns-in_err-choices-clause-tree t c =
    let p = err_from_is_err_and c.from_residual.result c.from_residual.ensures.1 in
    let part = λ (v : Value). core_of c.args.self.now.cells.now c.args.self.now.scope c.args.in_page (meaning v) in
    both_stop c.from_residual.result p.0 c.in_err-choices.field-0.0 (both c.args.self.now.cells.now c.args.self.now.scope c.args.in_page (meaning c.args.test.now) (meaning c.args.chosen.now))
    (λ cs. part c.args.otherwise.now >>= (λ z. Ok (choose cs z)))
    (if_form c.args.self.now.cells.now c.args.self.now.scope c.args.in_page (if_parts c.args.test.now c.args.chosen.now c.args.otherwise.now))
    p.1 p.2 c.in_err-choices.ensures.tree (both_first (part c.args.test.now) (part c.args.chosen.now) (part c.args.otherwise.now))

pub read_row-returns-in-If-clause-tree : goal.read_row-returns-in-If-clause-tree
read_row-returns-in-If-clause-tree t c = rw c.in-If.is c.read_if.ensures.tree

pub read_all-read-requires : goal.read_all-read-requires
read_all-read-requires t c =
    let within = item_weight c.args.parts.now c.loop-part.part-index c.part-item.result (omega arith) in
    let here = ap (λ v. weight (meaning v)) c.part-item.is in
    (omega (arith, within, here, c.decreases), tt)

pub read_values-read_second-requires : goal.read_values-read_second-requires
read_values-read_second-requires t c =
    let within = item_weight c.args.bindings.now c.loop-binding.binding-index c.binding-item.result (omega arith) in
    let here = ap (λ v. weight (meaning v)) c.binding-item.is in
    (omega (arith, within, here, c.decreases), tt)

pub read_values_in_turn-read_second-requires : goal.read_values_in_turn-read_second-requires
read_values_in_turn-read_second-requires t c =
    let within = item_weight c.args.bindings.now c.loop-binding.binding-index c.binding-item.result (omega arith) in
    let here = ap (λ v. weight (meaning v)) c.binding-item.is in
    (omega (arith, within, here, c.decreases), tt)

pub fill_all-fill_part-requires : goal.fill_all-fill_part-requires
fill_all-fill_part-requires t c =
    let within = item_weight c.args.items.now c.loop-item.item-index c.item-item.result (omega arith) in
    let here = ap (λ v. weight (meaning v)) c.item-item.is in
    (omega (arith, within, here, c.decreases), tt)

pub splice_all-splice-requires : goal.splice_all-splice-requires
splice_all-splice-requires t c =
    let within = item_weight c.args.items.now c.loop-item.item-index c.item-item.result (omega arith) in
    let here = ap (λ v. weight (meaning v)) c.item-item.is in
    (omega (arith, within, here, c.decreases), tt)

pub read_first-returns-in-len1-up-clause-tree : goal.read_first-returns-in-len1-up-clause-tree
read_first-returns-in-len1-up-clause-tree t c =
    let e1 = split_off _ _ c.test-item.is c.in-len1-up.len_at_least in
    rw (e1) c.read.ensures.tree

pub read_others-returns-in-len1-up-clause-tree : goal.read_others-returns-in-len1-up-clause-tree
read_others-returns-in-len1-up-clause-tree t c =
    let e1 = split_off _ _ c._test-item.is c.in-len1-up.len_at_least in
    rw (e1) c.read_body.ensures.tree

pub read_choices-read_choice_body-requires : goal.read_choices-read_choice_body-requires
read_choices-read_choice_body-requires t c =
    let within = item_weight c.args.clauses.now c.loop-place.place c.index-clauses-place.result c.loop-place-test.true in
    let here = ap (λ v. weight (meaning v)) c.index-clauses-place.is in
    (omega (arith, within, here, c.decreases), tt)

pub read_choices-read_choice-requires : goal.read_choices-read_choice-requires
read_choices-read_choice-requires t c =
    let within = item_weight c.args.clauses.now c.loop-place.place c.index-clauses-place-in-loop-place.result c.loop-place-test.true in
    let here = ap (λ v. weight (meaning v)) c.index-clauses-place-in-loop-place.is in
    (omega (arith, within, here, c.decreases), tt)

pub read_choices-returns-in_err-choice-clause-tree : goal.read_choices-returns-in_err-choice-clause-tree
read_choices-returns-in_err-choice-clause-tree t c =
    let d = c.index-clauses-place-in-loop-place.result in
    let next = choices_next c.args.self.now.cells.now c.args.self.now.scope c.args.in_page (map pair_of c.loop-place.choices.items) c.args.clauses.now c.loop-place.place d
    c.loop-place-test.true c.if-place-clauses.false c.index-clauses-place-in-loop-place.is in
    let p = err_from_is_err_and c.from_residual-in_err-choice.result c.from_residual-in_err-choice.ensures.1 in
    let gave = rw c.loop-place.invariant.0 at c.in_err-choice.ensures.tree in
    clause_stops c.from_residual-in_err-choice.result p.0 c.in_err-choice.field-0.0 _ _ _ p.1 p.2 gave (c.loop-place.invariant.1 ∙ next)

pub read_choices-loop-place-preserved : goal.read_choices-loop-place-preserved
read_choices-loop-place-preserved t c =
    let d = c.index-clauses-place-in-loop-place.result in
    let next = choices_next c.args.self.now.cells.now c.args.self.now.scope c.args.in_page (map pair_of c.loop-place.choices.items) c.args.clauses.now c.loop-place.place d
    c.loop-place-test.true c.if-place-clauses.false c.index-clauses-place-in-loop-place.is in
    let gave = rw c.loop-place.invariant.0 at c.in_ok-choice.ensures.tree in
    (c.in_ok-choice.ensures.kept ∙ c.loop-place.invariant.0, c.loop-place.invariant.1 ∙ (next ∙ rw (gave, c.in_ok-push.ensures.items, map_behind) refl))

pub read_second_of_two-returns-in-len2-clause-tree : goal.read_second_of_two-returns-in-len2-clause-tree
read_second_of_two-returns-in-len2-clause-tree t c =
    let e = exactly_two _ _ _ c._head-item.is c.second-item.is c.in-len2.len_at_least c.in-len2.len_below in
    rw e c.read.ensures.tree

pub splice-returns-then-is_splice-clause-tree : goal.splice-returns-then-is_splice-clause-tree
splice-returns-then-is_splice-clause-tree t c =
    gives_same c.read_second.result _ _ (splice_filled c.args.self.now.cells.now c.args.self.now.scope c.args.in_page (meaning c.args.item.now) (sym c.is_splice.ensures ∙ c.if-is_splice.true)) c.read_second.ensures.tree

pub fill-returns-in_err-tree-clause-tree : goal.fill-returns-in_err-tree-clause-tree
fill-returns-in_err-tree-clause-tree t c =
    let p = err_from_is_err_and c.from_residual.result c.from_residual.ensures.1 in
    part_stops c.args.self.now.cells.now c.args.self.now.scope c.args.in_page (meaning c.args.template.now) c.from_residual.result p.0 c.in_err-tree.field-0.0 p.1 p.2 c.in_err-tree.ensures.tree

pub fill-returns-clause-tree : goal.fill-returns-clause-tree
fill-returns-clause-tree t c =
    gives_same c.or_literal.result _ _ (part_given c.args.self.now.cells.now c.args.self.now.scope c.args.in_page (meaning c.args.template.now) c.in_ok-tree.tree c.in_ok-tree.ensures.tree).0 c.or_literal.ensures

pub fill_list-returns-then-begins-clause-tree : goal.fill_list-returns-then-begins-clause-tree
fill_list-returns-then-begins-clause-tree t c =
    gives_too c.fill_unquote.result _ _ (unquote_is c.args.self.now.cells.now c.args.self.now.scope c.args.in_page (meanings c.args.items.now) (sym c.begins.ensures ∙ c.if-begins.true)) c.fill_unquote.ensures.tree

pub fill_list-returns-then-has_splice-clause-tree : goal.fill_list-returns-then-has_splice-clause-tree
fill_list-returns-then-has_splice-clause-tree t c =
    gives_too c.fill_joined.result _ _
    (joined_is c.args.self.now.cells.now c.args.self.now.scope c.args.in_page (meanings c.args.items.now) (sym c.begins.ensures ∙ c.if-begins.false) (sym c.has_splice.ensures ∙ c.if-has_splice.true))
    c.fill_joined.ensures.tree

pub fill_list-returns-clause-tree : goal.fill_list-returns-clause-tree
fill_list-returns-clause-tree t c =
    gives_too c.fill_items.result _ _
    (list_is c.args.self.now.cells.now c.args.self.now.scope c.args.in_page (meanings c.args.items.now) (sym c.begins.ensures ∙ c.if-begins.false) (sym c.has_splice.ensures ∙ c.if-has_splice.false))
    c.fill_items.ensures.tree

pub fill_all-loop-item-preserved : goal.fill_all-loop-item-preserved
fill_all-loop-item-preserved t c =
    let xs = c.args.items.now in
    let i = c.loop-item.item-index in
    let x = c.item-item.result in
    let gave = rw c.loop-item.invariant.0 at c.in_ok-tree.ensures.tree in
    let added = item_added c.args.self.now.cells.now c.args.self.now.scope c.args.in_page (trees_of c.loop-item.filled) xs i x c.in_ok-tree.tree (omega arith) c.item-item.is gave in
    let counted = item_counted c.args.self.now.cells.now c.args.self.now.scope c.args.in_page (has_no_tree c.loop-item.filled) xs i x c.in_ok-tree.tree (omega arith) c.item-item.is gave in (
      c.in_ok-tree.ensures.kept ∙ c.loop-item.invariant.0,
      c.loop-item.invariant.1 ∙ (added ∙ rw c.in_ok-add.ensures.trees refl),
      c.loop-item.invariant.2 ∙ (counted ∙ rw c.in_ok-add.ensures.plain refl),
    )

pub fill_all-returns-in_err-tree-clause-tree : goal.fill_all-returns-in_err-tree-clause-tree
fill_all-returns-in_err-tree-clause-tree t c =
    let p = err_from_is_err_and c.from_residual.result c.from_residual.ensures.1 in
    let gave = rw c.loop-item.invariant.0 at c.in_err-tree.ensures.tree in
    item_stops c.args.self.now.cells.now c.args.self.now.scope c.args.in_page (has_no_tree c.loop-item.filled) (trees_of c.loop-item.filled) c.args.items.now c.loop-item.item-index c.item-item.result (omega arith) c.item-item.is
    c.loop-item.invariant.1 c.loop-item.invariant.2 c.from_residual.result p.0 c.in_err-tree.field-0.0 p.1 p.2 gave

pub fill_all-returns-clause-tree : goal.fill_all-returns-clause-tree
fill_all-returns-clause-tree t c =
    let end = items_end c.args.self.now.cells.now c.args.self.now.scope c.args.in_page (has_no_tree c.loop-item.filled) (trees_of c.loop-item.filled) c.args.items.now c.loop-item.item-index (omega arith) c.loop-item.invariant.1 c.loop-item.invariant.2 in
    items_given (has_no_tree c.loop-item.filled) c.begins.result (begins (codes "unquote-splicing") (meanings c.args.items.now)) (trees_of c.loop-item.filled)
    (option_map (λ v. v.items) c.in_ok-into_trees.field-0) (items_filled c.args.self.now.cells.now c.args.self.now.scope c.args.in_page (meanings c.args.items.now))
    end c.begins.ensures c.in_ok-into_trees.ensures
