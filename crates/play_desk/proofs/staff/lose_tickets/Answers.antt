use Rattle.std.proofs.Common.{◌≡◌, ◌≢◌, ◌+◌, ◌∙◌, List, Option, Some, subst, sym, slice_set, arith, IfSome}
use Rattle.shelf.specs.Visits.{Ticket}
use Rattle.play_desk.specs.Staff.{place_of}
use Rattle.play_desk.proofs.Losing.{Loses, none_lost, one_lost, all_lost}
use Rattle.play_desk.proofs.staff.lose_tickets.Goals as goal

pub loop-worker-init : goal.loop-worker-init
loop-worker-init c = none_lost c.args.count c.args.place _

pub loop-worker-preserved : goal.loop-worker-preserved
loop-worker-preserved c =
    let held = c.handed_in-held.result in
    let new = c.left_of.result in
    subst (λ (ts : List (Option Ticket)). Loses c.args.count c.args.place (c.loop-worker.worker + 1) c.args.tickets.now (slice_set ts c.loop-worker.worker new))
    (sym c.handed_in-held.ensures.without)
    (one_lost c.args.count c.args.place c.loop-worker.worker c.args.tickets.now c.loop-worker.tickets held new
    (omega (arith, c.loop-worker-test.true, c.requires.workers)) c.loop-worker.invariant c.handed_in-held.ensures.ticket c.left_of.ensures.held
    (λ t e. subst (λ (o : Option Ticket). IfSome o (λ u. (held ≡ Some u) × (place_of c.args.count c.loop-worker.worker u ≢ c.args.place))) e c.left_of.ensures.kept))

pub returns : goal.returns
returns c =
    let all = all_lost c.args.count c.args.place c.loop-worker.worker c.args.tickets.now c.loop-worker.tickets
    (omega (arith, c.loop-worker-test.false, c.requires.workers)) c.loop-worker.invariant in
    record { held = all.0; kept = all.1; workers = c.loop-worker.invariant.size ∙ c.requires.workers }
