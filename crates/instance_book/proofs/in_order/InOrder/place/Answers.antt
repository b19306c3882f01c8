use Rattle.std.proofs.Common.{◌≡◌, subst, List, None, IfNone}
use Rattle.std.specs.Result.{result_ok}
use Rattle.journal_records.specs.ReplaySpec.Book.{at_number}
use Rattle.instance_book.specs.declared.numbered.Numbered.{Numbered}
use Rattle.instance_book.proofs.Lists.{told_none}
use Rattle.instance_book.proofs.in_order.InOrder.place.Goals as goal

pub returns-clause-absent : goal.returns-clause-absent
returns-clause-absent g c =
    rw c.ok.ensures.value
    (subst (λ (xs : List (Numbered g.row.T.Denot)). IfNone (result_ok c.search.result) (at_number (λ thing. thing.number) c.args.number xs ≡ None)) c.deref.ensures.value
    (told_none c.deref.result.now c.args.number c.search.result c.search.ensures))
