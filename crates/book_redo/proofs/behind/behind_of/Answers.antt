use Rattle.std.proofs.Common.{ap}
use Rattle.script_nodes.specs.Views.{library_of}
use Rattle.journal_records.specs.Views.{origin_of}
use Rattle.journal_records.specs.declared.records.Origin.{Origin}
use Rattle.script_value.specs.Views.{meaning}
use Rattle.book_redo.proofs.Before.{start_stored, of_start, of_answer_if, own_start, own_answer_if}
use Rattle.book_redo.proofs.behind.behind_of.Goals as goal

pub returns-in-Start-clause-told : goal.returns-in-Start-clause-told
returns-in-Start-clause-told c =
    of_start (library_of c.args.library.now) c.args.book.now c.args.page.now c.in-Start.script c.at_start.result (ap (λ (o : Origin). origin_of o) c.in-Start.is) c.at_start.ensures

pub returns-in-Start-clause-own : goal.returns-in-Start-clause-own
returns-in-Start-clause-own c has =
    own_start (library_of c.args.library.now) c.args.book.now c.args.page.now c.in-Start.script c.at_start.result (ap (λ (o : Origin). origin_of o) c.in-Start.is) c.at_start.ensures

pub returns-in-Answer-clause-told : goal.returns-in-Answer-clause-told
returns-in-Answer-clause-told c =
    of_answer_if (library_of c.args.library.now) c.args.book.now c.args.page.now c.in-Answer.instance c.in-Answer.page (meaning c.in-Answer.answer) c.at_answer.result
    (ap (λ (o : Origin). origin_of o) c.in-Answer.is) c.at_answer.ensures.told

pub returns-in-Answer-clause-own : goal.returns-in-Answer-clause-own
returns-in-Answer-clause-own c =
    own_answer_if (library_of c.args.library.now) c.args.book.now c.args.page.now c.in-Answer.instance c.in-Answer.page (meaning c.in-Answer.answer) c.at_answer.result
    (ap (λ (o : Origin). origin_of o) c.in-Answer.is) c.at_answer.ensures.own

pub returns-in-Start-clause-stored : goal.returns-in-Start-clause-stored
returns-in-Start-clause-stored c = start_stored (library_of c.args.library.now) c.in-Start.script c.at_start.result c.at_start.ensures
