use Rattle.std.proofs.Common.{◌∙◌, ap, sym, List, map}
use Rattle.replay_spec.specs.Marks.{uses_of}
use Rattle.instance_book.specs.declared.numbered.Numbered.{Numbered}
use Rattle.instance_book.specs.declared.page.KeptPage.{KeptPage}
use Rattle.instance_book.specs.Views.{mark_of, marks_of}
use Rattle.book_visits.specs.Uses.{read_uses, used_one}
use Rattle.instance_book.proofs.Marking.{marks_rise}
use Rattle.book_visits.proofs.Marking.{used_of_each, used_up}
use Rattle.book_visits.proofs.goes.uses_after.Goals as goal

pub returns : goal.returns
returns c =
    let p = c.args.answered in
    let n = c.args.number in
    let ps = c.args.pages.now in
    let seen = ap (λ (xs : List (Numbered KeptPage)). map (used_one p n) (uses_of (map mark_of xs))) c.as_slice-page-items.ensures in
    sym (used_up p n c.as_slice-page-items.result.now c.loop-page.page-index (read_uses c.loop-page.uses.items) c.loop-page-test.false)
    ∙ (c.loop-page.invariant ∙ (seen ∙ sym (used_of_each p n (marks_of ps) (marks_rise ps.things.items ps.rising))))
