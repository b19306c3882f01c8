use Rattle.std.proofs.Common.{length}
use Rattle.request_workers.proofs.link.+are_swept.Given as goal

abbrev pub decreases-are_swept : goal.decreases-are_swept
decreases-are_swept l = length l.answers.now
