use Rattle.std.proofs.Common.{◌≡◌, length}
use Rattle.http_forms.specs.Head.{without_blank}
use Rattle.http_forms.proofs.head.without_blank.Given as goal

abbrev pub invariant-loop-rest : goal.invariant-loop-rest
invariant-loop-rest l = without_blank l.rest ≡ without_blank l.bytes

abbrev pub decreases-loop-rest : goal.decreases-loop-rest
decreases-loop-rest l = length l.rest
