use Rattle.book_redo.specs.Redo.{counted_to}
use Rattle.book_redo.proofs.Redone.{reopens_then}
use Rattle.book_redo.proofs.landing.pass.Goals as goal

pub returns-clause-book : goal.returns-clause-book
returns-clause-book c =
    reopens_then (counted_to c.args.number) c.args.book.now c.pass_over.new.book c.reopen.new.self
    (record { book = c.pass_over.ensures.book; states = c.pass_over.ensures.states }) c.reopen.ensures.book

pub returns-clause-placed : goal.returns-clause-placed
returns-clause-placed c = λ all has. c.reopen.ensures.placed all (c.pass_over.ensures.placed all has)
