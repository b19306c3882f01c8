use Rattle.std.proofs.Common.{◌≡◌, Ok, Err, subst, arith, rules}
use Rattle.std.specs.Prelude.{◌&&◌}
use Rattle.disk_trio.specs.Trio.{trio_view}
use Rattle.server_command.specs.Feeding.{PromotesOne}
use Rattle.server_command.specs.Racks.{racks_of}
use Rattle.server_command.proofs.Promotes.{HasTold, back_of, keeps_home, stopped_leaves, told_more, told_none, untold_leaves, whole_leaves}
use Rattle.server_command.proofs.feeding.promote_all.Goals as goal

pub promoting-init : goal.promoting-init
promoting-init g c = record { told = told_none (trio_view {G = g.D.Disk}) _ _ _; later = omega arith }

pub promoting-preserved : goal.promoting-preserved
promoting-preserved g c =
    let v = trio_view {G = g.D.Disk} in
    let tells = g.R.Rack.tells && g.D.Disk.tells in
    let before = g.R.Rack.view c.args.rack.now in
    let now = g.R.Rack.view c.promoting.rack in
    let after = g.R.Rack.view c.promote_shelf.new.rack in
    let old = g.O.Sink.view c.args.output.now in
    let mid = g.O.Sink.view c.promoting.output in
    let new = g.O.Sink.view c.tell_promoted.new.output in
    let is : c.promote_shelf.result ≡ Ok c.in-Ok.followed = search rules in
    record {
      told = told_more v tells before now after c.promoting.shelf old.written mid.written new.written c.promoting.invariant.told c.promote_shelf.ensures.rest
          c.in-Ok.followed (subst (PromotesOne v (racks_of tells now after) c.promoting.shelf) is c.promote_shelf.ensures.promotes)
          c.in-Ok-tell_promoted.ensures.tells;
      later = omega (arith, c.promoting.invariant.later, c.tell_promoted.ensures.later);
    }

pub returns-in-Err-tell_promoted-clause-leaves : goal.returns-in-Err-tell_promoted-clause-leaves
returns-in-Err-tell_promoted-clause-leaves g c =
    let v = trio_view {G = g.D.Disk} in
    let tells = g.R.Rack.tells && g.D.Disk.tells in
    let before = g.R.Rack.view c.args.rack.now in
    let now = g.R.Rack.view c.promoting.rack in
    let after = g.R.Rack.view c.promote_shelf.new.rack in
    let old = g.O.Sink.view c.args.output.now in
    let mid = g.O.Sink.view c.promoting.output in
    let new = g.O.Sink.view c.tell_promoted.new.output in
    let is : c.promote_shelf.result ≡ Ok c.in-Ok.followed = search rules in
    untold_leaves v tells before now after c.promoting.shelf old.written mid.written new.written c.promoting.invariant.told c.promote_shelf.ensures.rest
    c.args.options.now.shelves c.in-Ok.followed c.in-Err-tell_promoted.status old.faults mid.faults new.faults (omega arith) c.promoting.invariant.later
    (subst (PromotesOne v (racks_of tells now after) c.promoting.shelf) is c.promote_shelf.ensures.promotes) c.in-Err-tell_promoted.ensures.tells

pub returns-in-Err-clause-leaves : goal.returns-in-Err-clause-leaves
returns-in-Err-clause-leaves g c =
    let v = trio_view {G = g.D.Disk} in
    let tells = g.R.Rack.tells && g.D.Disk.tells in
    let before = g.R.Rack.view c.args.rack.now in
    let now = g.R.Rack.view c.promoting.rack in
    let after = g.R.Rack.view c.promote_shelf.new.rack in
    let old = g.O.Sink.view c.args.output.now in
    let mid = g.O.Sink.view c.promoting.output in
    let new = g.O.Sink.view c.tell_unopened.new.output in
    let is : c.promote_shelf.result ≡ Err c.in-Err.why = search rules in
    stopped_leaves v tells before now after c.promoting.shelf old.written mid.written new.written c.promoting.invariant.told c.promote_shelf.ensures.rest
    c.args.options.now.shelves c.in-Err.why c.tell_unopened.result old.faults mid.faults new.faults (omega arith) c.promoting.invariant.later
    (subst (PromotesOne v (racks_of tells now after) c.promoting.shelf) is c.promote_shelf.ensures.promotes) c.tell_unopened.ensures.tells

pub returns-clause-leaves : goal.returns-clause-leaves
returns-clause-leaves g c =
    let v = trio_view {G = g.D.Disk} in
    let rack = racks_of (g.R.Rack.tells && g.D.Disk.tells) (g.R.Rack.view c.args.rack.now) (g.R.Rack.view c.promoting.rack) in
    let old = g.O.Sink.view c.args.output.now in
    let mid = g.O.Sink.view c.promoting.output in
    let new = g.O.Sink.view c.hand_on.new.output in
    let all : c.promoting.shelf ≡ c.args.options.now.shelves = search (rules, arith) in
    whole_leaves v rack c.args.options.now.shelves c.hand_on.result old.written mid.written new.written old.faults mid.faults new.faults
    (subst (λ n. HasTold v rack n old.written mid.written) all c.promoting.invariant.told) c.hand_on.ensures.same c.promoting.invariant.later
    c.hand_on.ensures.status

pub returns-in-Err-tell_promoted-clause-back : goal.returns-in-Err-tell_promoted-clause-back
returns-in-Err-tell_promoted-clause-back g c =
    let tells = g.R.Rack.tells && g.D.Disk.tells in
    let before = g.R.Rack.view c.args.rack.now in
    let now = g.R.Rack.view c.promoting.rack in
    let after = g.R.Rack.view c.promote_shelf.new.rack in
    let p = c.promoting.invariant.told in
    back_of before after c.requires.home (keeps_home (trio_view {G = g.D.Disk}) tells before now after c.promoting.shelf (g.O.Sink.view c.args.output.now).written (g.O.Sink.view c.promoting.output).written (g.O.Sink.view c.tell_promoted.new.output).written p c.promote_shelf.ensures.rest)
    (omega (arith, p.passed.later, c.promote_shelf.ensures.rest.later))

pub returns-in-Err-clause-back : goal.returns-in-Err-clause-back
returns-in-Err-clause-back g c =
    let tells = g.R.Rack.tells && g.D.Disk.tells in
    let before = g.R.Rack.view c.args.rack.now in
    let now = g.R.Rack.view c.promoting.rack in
    let after = g.R.Rack.view c.promote_shelf.new.rack in
    let p = c.promoting.invariant.told in
    back_of before after c.requires.home (keeps_home (trio_view {G = g.D.Disk}) tells before now after c.promoting.shelf (g.O.Sink.view c.args.output.now).written (g.O.Sink.view c.promoting.output).written (g.O.Sink.view c.tell_unopened.new.output).written p c.promote_shelf.ensures.rest)
    (omega (arith, p.passed.later, c.promote_shelf.ensures.rest.later))

pub returns-clause-back : goal.returns-clause-back
returns-clause-back g c = back_of _ _ c.requires.home c.promoting.invariant.told.home c.promoting.invariant.told.passed.later
