use Rattle.journal_spec.proofs.Feeding as laws
use Rattle.journal_spec.proofs.followers_make_the_book.Goals as goal

pub returns : goal.returns
returns c = laws.followers_make c.records_are_exact.ensures
