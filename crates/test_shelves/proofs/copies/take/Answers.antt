use Rattle.test_shelves.proofs.Books.{ticket_out}
use Rattle.test_shelves.proofs.copies.take.Goals as goal

pub returns : goal.returns
returns c =
    ticket_out c.args.book.now c.take_ticket.new.book c.in_ok-ticket.ticket c.args.target.now c.in_ok-answer.answer 10
    c.in_ok-ticket.ensures.drawn c.in_ok-ticket.ensures.ticket
