use Rattle.journal_spec.proofs.Between as laws
use Rattle.journal_spec.proofs.images_make_books.Goals as goal

pub returns : goal.returns
returns c = laws.make_books
