use Rattle.std.proofs.Common.{◌∙◌, ap, List}
use Rattle.journal_records.specs.ReplaySpec.Admission.{is_one}
use Rattle.instance_book.specs.declared.numbered.Numbered.{Numbered}
use Rattle.instance_book.specs.Orders.{numbers_of}
use Rattle.instance_book.proofs.Lists.{told}
use Rattle.instance_book.proofs.in_order.InOrder.has.Goals as goal

pub returns : goal.returns
returns g c =
    c.is_ok.ensures.value
    ∙ (told c.deref.result.now c.args.number c.search.result c.search.ensures
    ∙ ap (λ (xs : List (Numbered g.row.T.Denot)). is_one c.args.number (numbers_of xs)) c.deref.ensures.value)
