use Rattle.std.proofs.Common.{length}
use Rattle.machine_outside.proofs.door.+faults_of.Given as goal

abbrev pub decreases-faults_of : goal.decreases-faults_of
decreases-faults_of g l = length l.porches.now
