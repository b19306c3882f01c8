use Rattle.journal_spec.proofs.Rewriting as laws
use Rattle.journal_spec.proofs.copies_make_the_book.Goals as goal

pub returns : goal.returns
returns c = laws.copies_make c.records_are_exact.ensures
