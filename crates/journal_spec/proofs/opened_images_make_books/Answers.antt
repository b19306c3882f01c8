use Rattle.journal_spec.proofs.Between as laws
use Rattle.journal_spec.proofs.opened_images_make_books.Goals as goal

pub returns : goal.returns
returns c = laws.opened_make_books
