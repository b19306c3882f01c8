use Rattle.std.proofs.Common.{None}
use Rattle.script_nodes.specs.Views.{library_of}
use Rattle.test_shelves.proofs.copies.empty_book.Goals as goal

pub returns-clause-placed : goal.returns-clause-placed
returns-clause-placed c = c.empty.ensures.placed (library_of c.args.library.now).all

pub returns-clause-kept : goal.returns-clause-kept
returns-clause-kept c = ((λ n. None), c.empty.ensures.told (λ n. None) (library_of c.args.library.now).all)
