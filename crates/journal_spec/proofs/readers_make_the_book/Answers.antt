use Rattle.journal_spec.proofs.Readings as laws
use Rattle.journal_spec.proofs.readers_make_the_book.Goals as goal

pub returns : goal.returns
returns g c = laws.make_the_book g.T.Take.takes
