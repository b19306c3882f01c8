use Rattle.journal_spec.proofs.Fitting as laws
use Rattle.journal_spec.proofs.bodies_make_fitting_books.Goals as goal

pub returns : goal.returns
returns c = laws.made_fits c.records_are_exact.ensures
