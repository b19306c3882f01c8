use Rattle.std.proofs.Common.{◌∙◌, ap, sym, option_map, Bor}
use Rattle.instance_book.specs.declared.numbered.Numbered.{Numbered}
use Rattle.instance_book.specs.declared.page.KeptPage.{KeptPage}
use Rattle.instance_book.specs.Views.{mark_of, marks_of}
use Rattle.instance_book.proofs.Marking.{marks_rise}
use Rattle.book_redo.proofs.Passed.{used_mark, used_by_mark}
use Rattle.book_redo.proofs.Redone.{none_is_kept}
use Rattle.book_redo.proofs.takes.is_used.Goals as goal

pub returns-in-Some : goal.returns-in-Some
returns-in-Some c =
    none_is_kept c.in-Some.page.now.item.gone c.is_none.result c.is_none.ensures
    ∙ sym (used_by_mark c.args.page (marks_of c.args.shown.now) (marks_rise c.args.shown.now.things.items c.args.shown.now.rising)
    ∙ ap used_mark (sym c.page.ensures.marked ∙ ap (option_map (λ (x : Bor (Numbered KeptPage)). mark_of x.now)) c.in-Some.is))

pub returns-in-None : goal.returns-in-None
returns-in-None c =
    sym (used_by_mark c.args.page (marks_of c.args.shown.now) (marks_rise c.args.shown.now.things.items c.args.shown.now.rising)
    ∙ ap used_mark (sym c.page.ensures.marked ∙ ap (option_map (λ (x : Bor (Numbered KeptPage)). mark_of x.now)) c.in-None.is))
