use Rattle.std.proofs.Common.{◌≡◌, ◌*◌, ◌+◌, ◌&&◌, [], drop, map}
use Rattle.script_value.specs.Val.{weight, weight_all}
use Rattle.script_value.specs.Views.{meaning, meanings}
use Rattle.core_syntax.specs.Forms.{cores_from, bound_values, values_in_turn, choices, all_filled, spliced}
use Rattle.core_syntax.specs.Rows.{row_weight}
use Rattle.core_syntax.specs.RowsSeen.{row_seen}
use Rattle.core_syntax.specs.ReaderSeen.{here}
use Rattle.core_syntax.specs.Templates.{are_plain}
use Rattle.core_syntax.specs.Filling.{trees_of, has_no_tree}
use Rattle.core_syntax.specs.Trees.{pair_of}
use Rattle.core_syntax.proofs.read.Reader.+read.Given as goal

abbrev pub decreases-read : goal.decreases-read
decreases-read l = 8 * weight (meaning l.form.now) + 2

abbrev pub decreases-read_row : goal.decreases-read_row
decreases-read_row l = 8 * (row_weight (row_seen l.row)) + 9

abbrev pub decreases-read_all : goal.decreases-read_all
decreases-read_all l = 8 * weight_all (meanings l.parts.now) + 5

abbrev pub decreases-read_body : goal.decreases-read_body
decreases-read_body l = 8 * weight_all (meanings l.body.now) + 6

abbrev pub decreases-read_within : goal.decreases-read_within
decreases-read_within l = 8 * weight_all (meanings l.body.now) + 6

abbrev pub decreases-read_within_one : goal.decreases-read_within_one
decreases-read_within_one l = 8 * weight_all (meanings l.body.now) + 6

abbrev pub decreases-read_let : goal.decreases-read_let
decreases-read_let l = 8 * (weight_all (meanings l.bindings.now) + weight_all (meanings l.body.now)) + 8

abbrev pub decreases-read_let_of : goal.decreases-read_let_of
decreases-read_let_of l = 8 * (weight_all (meanings l.bindings.now) + weight_all (meanings l.body.now)) + 7

abbrev pub decreases-read_behind : goal.decreases-read_behind
decreases-read_behind l = 8 * weight_all (meanings l.body.now) + 7

abbrev pub decreases-read_both : goal.decreases-read_both
decreases-read_both l = 8 * (weight (meaning l.test.now) + weight (meaning l.chosen.now)) + 4

abbrev pub decreases-read_and : goal.decreases-read_and
decreases-read_and l = 8 * weight_all (meanings l.parts.now) + 6

abbrev pub decreases-read_or : goal.decreases-read_or
decreases-read_or l = 8 * weight_all (meanings l.parts.now) + 6

abbrev pub decreases-read_prim : goal.decreases-read_prim
decreases-read_prim l = 8 * weight_all (meanings l.parts.now) + 6

abbrev pub decreases-read_let_in_turn : goal.decreases-read_let_in_turn
decreases-read_let_in_turn l = 8 * (weight_all (meanings l.bindings.now) + weight_all (meanings l.body.now)) + 8

abbrev pub decreases-read_values : goal.decreases-read_values
decreases-read_values l = 8 * weight_all (meanings l.bindings.now) + 5

abbrev pub decreases-read_values_in_turn : goal.decreases-read_values_in_turn
decreases-read_values_in_turn l = 8 * weight_all (meanings l.bindings.now) + 5

abbrev pub decreases-read_second : goal.decreases-read_second
decreases-read_second l = 8 * weight (meaning l.pair.now) + 3

abbrev pub decreases-read_second_of_two : goal.decreases-read_second_of_two
decreases-read_second_of_two l = 8 * weight_all (meanings l.items.now) + 6

abbrev pub decreases-read_for : goal.decreases-read_for
decreases-read_for l = 8 * (weight (meaning l.count.now) + weight_all (meanings l.body.now)) + 8

abbrev pub decreases-read_if : goal.decreases-read_if
decreases-read_if l = 8 * (weight (meaning l.test.now) + weight (meaning l.chosen.now) + weight (meaning l.otherwise.now)) + 5

abbrev pub decreases-read_choices : goal.decreases-read_choices
decreases-read_choices l = 8 * weight_all (meanings l.clauses.now) + 7

abbrev pub decreases-read_choice : goal.decreases-read_choice
decreases-read_choice l = 8 * weight (meaning l.clause.now) + 5

abbrev pub decreases-read_choice_test : goal.decreases-read_choice_test
decreases-read_choice_test l = 8 * weight (meaning l.clause.now) + 4

abbrev pub decreases-read_choice_body : goal.decreases-read_choice_body
decreases-read_choice_body l = 8 * weight (meaning l.clause.now) + 4

abbrev pub decreases-read_first : goal.decreases-read_first
decreases-read_first l = 8 * weight_all (meanings l.items.now) + 4

abbrev pub decreases-read_others : goal.decreases-read_others
decreases-read_others l = 8 * weight_all (meanings l.items.now) + 7

abbrev pub decreases-read_store : goal.decreases-read_store
decreases-read_store l = 8 * weight (meaning l.value.now) + 4

abbrev pub decreases-read_send : goal.decreases-read_send
decreases-read_send l = 8 * weight_all (meanings l.body.now) + 8

abbrev pub decreases-read_last : goal.decreases-read_last
decreases-read_last l = 8 * weight (meaning l.body.now) + 4

abbrev pub decreases-read_call : goal.decreases-read_call
decreases-read_call l = 8 * weight_all (meanings l.operands.now) + 6

abbrev pub decreases-read_isolate : goal.decreases-read_isolate
decreases-read_isolate l = 8 * weight (meaning l.body.now) + 4

abbrev pub decreases-fill : goal.decreases-fill
decreases-fill l = 8 * weight (meaning l.template.now) + 4

abbrev pub decreases-fill_part : goal.decreases-fill_part
decreases-fill_part l = 8 * weight (meaning l.template.now) + 3

abbrev pub decreases-fill_list : goal.decreases-fill_list
decreases-fill_list l = 8 * weight_all (meanings l.items.now) + 10

abbrev pub decreases-fill_unquote : goal.decreases-fill_unquote
decreases-fill_unquote l = 8 * weight_all (meanings l.items.now) + 7

abbrev pub decreases-fill_joined : goal.decreases-fill_joined
decreases-fill_joined l = 8 * weight_all (meanings l.items.now) + 9

abbrev pub decreases-fill_items : goal.decreases-fill_items
decreases-fill_items l = 8 * weight_all (meanings l.items.now) + 9

abbrev pub decreases-fill_all : goal.decreases-fill_all
decreases-fill_all l = 8 * weight_all (meanings l.items.now) + 8

abbrev pub decreases-splice_all : goal.decreases-splice_all
decreases-splice_all l = 8 * weight_all (meanings l.items.now) + 8

abbrev pub decreases-splice : goal.decreases-splice
decreases-splice l = 8 * weight (meaning l.item.now) + 6

abbrev pub invariant-read_all-loop-part : goal.invariant-read_all-loop-part
invariant-read_all-loop-part l = (l.self ≡ l.fn.self)
    × (here l.fn.self cores_from l.in_page [] (meanings l.parts)
    ≡ here l.fn.self cores_from l.in_page l.trees.items (meanings (drop l.part-index l.parts)))

abbrev pub invariant-read_values-loop-binding : goal.invariant-read_values-loop-binding
invariant-read_values-loop-binding l = (l.self ≡ l.fn.self)
    × (here l.fn.self bound_values l.in_page [] (meanings l.bindings)
    ≡ here l.fn.self bound_values l.in_page l.values.items (meanings (drop l.binding-index l.bindings)))

abbrev pub invariant-fill_all-loop-item : goal.invariant-fill_all-loop-item
invariant-fill_all-loop-item l = (l.self ≡ l.fn.self)
    × (here l.fn.self all_filled l.in_page [] (meanings l.items)
    ≡ here l.fn.self all_filled l.in_page (trees_of l.filled) (meanings (drop l.item-index l.items)))
    × (are_plain (meanings l.items) ≡ (has_no_tree l.filled && are_plain (meanings (drop l.item-index l.items))))

abbrev pub invariant-splice_all-loop-item : goal.invariant-splice_all-loop-item
invariant-splice_all-loop-item l = (l.self ≡ l.fn.self)
    × (here l.fn.self spliced l.in_page [] (meanings l.items)
    ≡ here l.fn.self spliced l.in_page l.trees.items (meanings (drop l.item-index l.items)))

abbrev pub invariant-read_values_in_turn-loop-binding : goal.invariant-read_values_in_turn-loop-binding
invariant-read_values_in_turn-loop-binding l = (l.self.alloc ≡ l.fn.self.alloc) × (l.self.cells ≡ l.fn.self.cells) × (drop l.binding-index l.self.scope ≡ l.fn.self.scope)
    × (here l.fn.self values_in_turn l.in_page [] (meanings l.bindings)
    ≡ here l.self values_in_turn l.in_page l.values.items (meanings (drop l.binding-index l.bindings)))

abbrev pub invariant-read_choices-loop-place : goal.invariant-read_choices-loop-place
invariant-read_choices-loop-place l = (l.self ≡ l.fn.self)
    × (here l.fn.self choices l.in_page [] (meanings l.clauses)
    ≡ here l.fn.self choices l.in_page (map pair_of l.choices.items) (meanings (drop l.place l.clauses)))
