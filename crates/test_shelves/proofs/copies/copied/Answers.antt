use Rattle.test_shelves.proofs.copies.copied.Goals as goal

pub returns : goal.returns
returns c = c.in_ok-copy.ensures.room c.args.book.now c.requires
