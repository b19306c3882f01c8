use Rattle.book_visits.proofs.take.take_ticket.Goals as goal

pub made-requires-clause-kept : goal.made-requires-clause-kept
made-requires-clause-kept c = c.requires.kept
