use Rattle.play_desk.proofs.Losing.{Loses}
use Rattle.play_desk.proofs.staff.lose_tickets.Given as goal

abbrev pub invariant-loop-worker : goal.invariant-loop-worker
invariant-loop-worker l = Loses l.count l.place l.worker l.initial.tickets l.tickets
