use Rattle.std.proofs.Common.{◌-◌}
use Rattle.request_workers.specs.Tallies.{count_of}
use Rattle.request_workers.proofs.Rounds.{Goes}
use Rattle.request_workers.proofs.worker.work.Given as goal

abbrev pub invariant-loop-tally : goal.invariant-loop-tally
invariant-loop-tally g l = Goes (g.A.Answering.rules l.answering) g.P.Link.Link.view (g.C.Clock.shows l.clock) l.requests l.fn.pass l.pass
    (g.P.Porch.view l.fn.porch) (g.P.Porch.view l.porch) (count_of l.tally)

abbrev pub decreases-loop-tally : goal.decreases-loop-tally
decreases-loop-tally g l = (g.P.Porch.view l.porch).most - (g.P.Porch.view l.porch).given
