use Rattle.std.proofs.Common.{true}
use Rattle.disk_trio.specs.Trio.{trio_view}
use Rattle.shelf.specs.Views.{IsInOrder}
use Rattle.test_followers.proofs.events.expect_no_visits.Given as goal

abbrev pub invariant-visits : goal.invariant-visits
invariant-visits l = IsInOrder trio_view true l.shelf
