use Rattle.std.proofs.Common.{◌≡◌, suc, ◌+◌, ◌∷◌, [], ◌++◌, length, take, map, ap, subst, sym, ◌∙◌}
use Rattle.std.specs.Prelude.{slice_set}
use Rattle.std.proofs.lemmas.List.{take_more}
use Rattle.std.proofs.lemmas.Result.{err_from_is_err_and}
use Rattle.core_syntax.specs.Forms.{nest, choose}
use Rattle.core_syntax.specs.Trees.{pair_of}
use Rattle.script_nodes.specs.declared.script.Node.TheVariants as node
use Rattle.core_syntax.specs.Groups.{group_node, single_node}
use Rattle.core_syntax.specs.Laid.{Stands}
use Rattle.script_nodes.specs.Core.{count, height}
use Rattle.script_nodes.specs.Layout.{layout}
use Rattle.script_nodes.specs.declared.script.Node.{Node}
use Rattle.core_syntax.proofs.Lays.{first_part, group_of, group_laid, single_laid, let_of, two_parts, nest_of, alone_of, choice_of, all_none, all_more, all_stops}
use Rattle.core_syntax.proofs.layout.+lay.Goals as goal

pub lay-returns-in-Group : goal.lay-returns-in-Group
lay-returns-in-Group t c =
    rw (c.form.ensures, c.in-Group.is)
    (group_laid c.in-Group.group c.in-Group.parts.items c.lay_group.result c.args.nodes.now c.lay_group.new.nodes c.args.left (rw c.as_slice-in-Group.ensures.value at c.lay_group.ensures))

pub lay_single-returns : goal.lay_single-returns
lay_single-returns t c =
    let old = c.args.nodes.now in
    let part = c.args.part.now in
    let node : c.single_of.result ≡ single_node c.args.single (length old + 1) = c.single_of.ensures ∙ ap (λ k. single_node c.args.single (k + 1)) c.next_number-next.ensures.number in
    single_laid c.args.single part old c.lay.new.nodes c.args.left c.in_ok-number.number
    (subst (λ (x : Node). Stands old c.lay.new.nodes c.args.left c.in_ok-number.number (x ∷ layout (length old + 1) part) (suc (count part)) (suc (height part))) node
    (first_part part c.in_ok-number.ensures c.in_ok-lay.ensures))

pub lay_group-returns : goal.lay_group-returns
lay_group-returns t c =
    group_of (group_node c.args.group) c.in_ok-number.ensures c.in_ok-parts.ensures
    (c.write.ensures.written ∙ ap (λ x. slice_set c.lay_all.new.nodes c.in_ok-number.number x) c.group_of.ensures) c.write.ensures.count

pub lay_let-returns : goal.lay_let-returns
lay_let-returns t c =
    let_of c.args.body.now c.in_ok-number.ensures c.in_ok-bindings.ensures c.next_number-body_number.ensures.number c.write.ensures.written c.write.ensures.count c.in_ok-lay.ensures

pub lay_for-returns : goal.lay_for-returns
lay_for-returns t c =
    two_parts c.args.count.now c.args.body.now node.For c.in_ok-number.ensures c.in_ok-count_number.ensures c.next_number-body_number.ensures.number c.write.ensures.written c.write.ensures.count c.in_ok-lay.ensures

pub lay_nest-returns : goal.lay_nest-returns
lay_nest-returns t c =
    nest_of c.args.value.now (nest c.args.others.now c.args.body.now) c.in_ok-number.ensures c.in_ok-value_number.ensures c.next_number-body_number.ensures.number
    (c.write.ensures.written ∙ ap (λ x. slice_set c.lay.new.nodes c.in_ok-number.number x) c.in_ok-let_of.ensures) c.write.ensures.count c.in_ok-lay_within.ensures

pub lay_alone-returns : goal.lay_alone-returns
lay_alone-returns t c =
    alone_of c.args.part.now c.in_ok-number.ensures c.in_ok-part.ensures
    (c.write.ensures.written ∙ ap (λ x. slice_set c.lay.new.nodes c.in_ok-number.number x) c.in_ok-seq_of.ensures) c.write.ensures.count

pub lay_choice-returns : goal.lay_choice-returns
lay_choice-returns t c =
    choice_of c.args.choice.now.test c.args.choice.now.body (choose (map pair_of c.args.others.now) c.args.otherwise.now) c.in_ok-number.ensures c.in_ok-test.ensures c.in_ok-body.ensures c.next_number-next.ensures.number c.write.ensures.written c.write.ensures.count c.in_ok-lay_otherwise.ensures

pub lay_all-loop-tree-init : goal.lay_all-loop-tree-init
lay_all-loop-tree-init t c = rw c.new-numbers.ensures.items (all_none c.args.nodes.now c.args.left)

pub lay_all-returns-in_err-number : goal.lay_all-returns-in_err-number
lay_all-returns-in_err-number t c =
    let p = err_from_is_err_and c.from_residual.result c.from_residual.ensures.1 in
    all_stops c.lay.new.nodes c.from_residual.result p.0 c.in_err-number.field-0.0 c.args.trees.now c.loop-tree.tree-index c.tree-item.result c.loop-tree-test.true c.tree-item.is p.1 p.2
    c.loop-tree.invariant c.in_err-number.ensures

pub lay_all-loop-tree-preserved : goal.lay_all-loop-tree-preserved
lay_all-loop-tree-preserved t c =
    let more : take (c.loop-tree.tree-index + 1) c.args.trees.now ≡ take c.loop-tree.tree-index c.args.trees.now ++ c.tree-item.result ∷ [] =
    take_more c.args.trees.now c.loop-tree.tree-index c.tree-item.result c.loop-tree-test.true ∙ ap (λ x. take c.loop-tree.tree-index c.args.trees.now ++ x ∷ []) (sym c.tree-item.is) in
    rw (more, c.in_ok-push.ensures.items) (all_more (take c.loop-tree.tree-index c.args.trees.now) c.tree-item.result c.loop-tree.invariant c.in_ok-number.ensures)
