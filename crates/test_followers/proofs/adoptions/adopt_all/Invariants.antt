use Rattle.std.proofs.Common.{true}
use Rattle.disk_trio.specs.Trio.{trio_view}
use Rattle.shelf.specs.Following.{IsInOrderIfFed}
use Rattle.test_followers.proofs.adoptions.adopt_all.Given as goal

abbrev pub invariant-bodies : goal.invariant-bodies
invariant-bodies l = IsInOrderIfFed trio_view true l.shelf
