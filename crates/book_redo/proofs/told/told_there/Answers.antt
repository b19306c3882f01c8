use Rattle.std.proofs.Common.{◌∙◌}
use Rattle.script_nodes.specs.Views.{named_of}
use Rattle.frame_codec.specs.FormViews.{before_of}
use Rattle.book_redo.proofs.Redone.{lent_before, answer_told, no_answer_told}
use Rattle.book_redo.proofs.told.told_there.Goals as goal

pub returns-clause-some : goal.returns-clause-some
returns-clause-some c =
    let self = c.args.place.now in
    answer_told (named_of self.script.now) self.instance.now.item.pages self.page.now c.args.bytes (before_of c.as_ref.result) c.next_links-links.result c.state_told.result
    c.next_links-links.ensures (λ are. lent_before c.as_ref.result c.in_ok-parent.parent c.as_ref.ensures.value ∙ c.in_ok-parent.ensures.before are) c.state_told.ensures.some

pub returns-clause-none : goal.returns-clause-none
returns-clause-none c =
    let self = c.args.place.now in
    no_answer_told (named_of self.script.now) self.instance.now.item.pages self.page.now c.args.bytes (before_of c.as_ref.result) c.state_told.result
    (λ are. lent_before c.as_ref.result c.in_ok-parent.parent c.as_ref.ensures.value ∙ c.in_ok-parent.ensures.before are) c.state_told.ensures.none
