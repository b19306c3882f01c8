use Rattle.journal_spec.proofs.Feeding as laws
use Rattle.journal_spec.proofs.promotions_make_the_book.Goals as goal

pub returns : goal.returns
returns c = laws.promotions_make c.records_are_exact.ensures
