use Rattle.instance_book.proofs.States.{one_more_state}
use Rattle.book_visits.proofs.one_more_has_its_state.Goals as goal

pub returns : goal.returns
returns c = one_more_state
