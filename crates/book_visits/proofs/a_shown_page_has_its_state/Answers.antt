use Rattle.book_visits.proofs.States.{a_shown_page_has_its_state}
use Rattle.book_visits.proofs.a_shown_page_has_its_state.Goals as goal

pub returns : goal.returns
returns c = a_shown_page_has_its_state
