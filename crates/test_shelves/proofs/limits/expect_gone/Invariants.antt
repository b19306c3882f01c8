use Rattle.std.proofs.Common.{true}
use Rattle.disk_trio.specs.Trio.{trio_view}
use Rattle.shelf.specs.Views.{IsInOrder}
use Rattle.test_shelves.proofs.limits.expect_gone.Given as goal

abbrev pub invariant-pages : goal.invariant-pages
invariant-pages l = IsInOrder trio_view true l.shelf
