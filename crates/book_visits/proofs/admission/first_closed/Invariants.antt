use Rattle.std.proofs.Common.{◌≡◌, drop}
use Rattle.replay_spec.specs.Names.{first_closed}
use Rattle.book_visits.proofs.admission.first_closed.Given as goal

abbrev pub invariant-loop-name : goal.invariant-loop-name
invariant-loop-name l = first_closed l.closed l.names ≡ first_closed l.closed (drop l.name-index l.names)
