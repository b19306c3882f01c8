use Rattle.shelf.proofs.Going.{tickets_go_on_to_fit}
use Rattle.shelf.proofs.tickets_go_on_to_fit.Goals as goal

pub returns : goal.returns
returns c = tickets_go_on_to_fit c.orderly_books_stay.ensures c.pages_stay.ensures
