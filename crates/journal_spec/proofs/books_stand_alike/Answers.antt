use Rattle.journal_spec.proofs.Between as laws
use Rattle.journal_spec.proofs.books_stand_alike.Goals as goal

pub returns : goal.returns
returns c = laws.stand_alike
