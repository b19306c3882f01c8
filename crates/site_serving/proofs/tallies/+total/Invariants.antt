use Rattle.std.proofs.Common.{length}
use Rattle.site_serving.proofs.tallies.+total.Given as goal

abbrev pub decreases-total : goal.decreases-total
decreases-total l = length l.tallies.now
