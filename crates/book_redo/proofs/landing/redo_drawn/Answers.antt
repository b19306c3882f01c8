use Rattle.book_redo.proofs.landing.redo_drawn.Goals as goal

pub returns-clause-low : goal.returns-clause-low
returns-clause-low c = c.go_on_with.ensures.low c.requires
