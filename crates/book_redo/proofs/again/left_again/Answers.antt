use Rattle.std.proofs.Common.{◌∙◌, ap, List}
use Rattle.script_value.specs.Val.{Val, list, vals_of}
use Rattle.script_value.specs.Views.{meaning}
use Rattle.journal_records.specs.Views.{origin_of}
use Rattle.journal_records.specs.declared.records.Origin.{Origin}
use Rattle.book_redo.proofs.Left.{from_start, from_answer, from_none}
use Rattle.book_redo.proofs.again.left_again.Goals as goal

pub returns-in_ok-cells-in-Start : goal.returns-in_ok-cells-in-Start
returns-in_ok-cells-in-Start c =
    let empty = ap (λ (vs : List Val). list (vals_of vs)) c.new.ensures in
    let cells = c.in_ok-cells-in-Start.ensures ∙ (c.as_slice.ensures ∙ c.instance_defaults-defaults.ensures) in
    from_start c.args.behind.now c.args.book.now c.args.page.now _ c.shelf.result _ c.in_ok-cells-in-Start.cells c.left_over.result (ap (λ (o : Origin). origin_of o) c.in-Start.is) c.shelf.ensures
    empty cells c.left_over.ensures

pub returns-in-Some : goal.returns-in-Some
returns-in-Some c =
    from_answer c.args.behind.now c.args.book.now c.args.page.now c.in-Answer.instance _ c.shelf-in-Some.result (meaning c.in-Answer.answer) c.in-Some.cells.now c.left_over-in-Some.result
    (ap (λ (o : Origin). origin_of o) c.in-Answer.is) c.shelf-in-Some.ensures c.in-Some.ensures c.left_over-in-Some.ensures

pub returns-in-None : goal.returns-in-None
returns-in-None c =
    from_none c.args.behind.now c.args.book.now c.args.page.now c.in-Answer.instance _ (meaning c.in-Answer.answer) (ap (λ (o : Origin). origin_of o) c.in-Answer.is) c.in-None.ensures
