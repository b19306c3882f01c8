use Rattle.std.proofs.Common.{ap}
use Rattle.script_value.specs.Views.{meaning}
use Rattle.script_nodes.specs.Views.{library_of}
use Rattle.journal_records.specs.Views.{origin_of}
use Rattle.journal_records.specs.declared.records.Origin.{Origin}
use Rattle.book_redo.proofs.Held.{of_start, of_answer}
use Rattle.book_redo.proofs.landings.page_lands.Goals as goal

pub returns-in-Start : goal.returns-in-Start
returns-in-Start c =
    of_start (library_of c.args.library.now) c.args.book.now c.args.told.now c.in-Start.script c.start_lands.result (ap (λ (o : Origin). origin_of o) c.in-Start.is) c.start_lands.ensures

pub returns-in-Answer : goal.returns-in-Answer
returns-in-Answer c =
    of_answer (library_of c.args.library.now) c.args.book.now c.args.told.now c.in-Answer.instance c.in-Answer.page (meaning c.in-Answer._answer) c.answer_lands.result
    (ap (λ (o : Origin). origin_of o) c.in-Answer.is) c.answer_lands.ensures
