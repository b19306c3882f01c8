use Rattle.std.proofs.Common.{◌≡◌, ◌≤◌, true, Some, refl, ap, subst, arith}
use Rattle.std.specs.Prelude.{◌&&◌}
use Rattle.disk_trio.specs.Trio.{trio_view}
use Rattle.web_outside.specs.Causes.{Rose}
use Rattle.page_journal.specs.Settled.{bodies_in}
use Rattle.page_follower.specs.OfShelf.Views.{follows_in}
use Rattle.page_follower.specs.Causes.{IsCausedBy}
use Rattle.page_follower.specs.declared.fault.FollowEnd.TheVariants as end
use Rattle.server_command.specs.Feeding.{not_opened}
use Rattle.server_command.proofs.Feeds.{by_role, fed_leaves, hands_fed, leads_leaves, rest}
use Rattle.server_command.proofs.Openings.{both_tell}
use Rattle.server_command.proofs.Promotes.{back_of}
use Rattle.server_command.proofs.feeding.follow_feed.Goals as goal

pub returns-in-Err-clause-leaves : goal.returns-in-Err-clause-leaves
returns-in-Err-clause-leaves g c = not_opened c.in-Err.why c.in-Err.ensures refl c.tell_unopened.ensures.tells

pub returns-in-Err-clause-back : goal.returns-in-Err-clause-back
returns-in-Err-clause-back g c = back_of _ _ c.requires.home c.in-Err.ensures.rest.home c.in-Err.ensures.rest.later

pub returns-clause-leaves : goal.returns-clause-leaves
returns-clause-leaves g c =
    let v = trio_view {G = g.D.Disk} in
    let told = g.R.Rack.tells && g.D.Disk.tells in
    let before = g.R.Rack.view c.args.rack.now in
    let mid = g.R.Rack.view c.open_shelf.new.rack in
    let after = g.R.Rack.view c.close_shelf.new.rack in
    let shelf = c.args.options.now.shelf in
    let s = c.in-Ok.shelf in
    let new = c.follow-end.new.shelf in
    let from = g.I.Source.view c.args.input.now in
    let left = g.I.Source.view c.follow-end.new.source in
    let old = g.O.Sink.view c.args.output.now in
    let between = g.O.Sink.view c.follow-end.new.sink in
    let last = g.O.Sink.view c.tell_followed.new.output in
    let e = c.follow-end.result in
    let how = c.tell_followed.result in
    let p = c.follow-end.ensures in
    by_role (follows_in s)
    (λ off. leads_leaves v g.D.Disk.tells told before mid after shelf s new (λ t. (both_tell _ _ t).1) c.in-Ok.ensures c.close_shelf.ensures from left old between last e how off
    (p.same off).0 (ap g.I.Source.view (p.same off).1.0) (ap g.O.Sink.view (p.same off).1.1) (p.leads off) c.tell_followed.ensures.tells)
    (λ on. fed_leaves v g.D.Disk.tells told before mid after shelf s new (λ t. (both_tell _ _ t).1) c.in-Ok.ensures c.close_shelf.ensures from left old between last e how
    (bodies_in v new.journal) on (p.follows on) (p.causes on) c.tell_followed.ensures.later c.tell_followed.ensures.tells)

pub returns-clause-hands : goal.returns-clause-hands
returns-clause-hands g c =
    let p = c.follow-end.ensures in
    let old = g.O.Sink.view c.args.output.now in
    let between = g.O.Sink.view c.follow-end.new.sink in
    let last = g.O.Sink.view c.tell_followed.new.output in
    let later : old.faults ≤ between.faults = by_role (follows_in c.in-Ok.shelf)
    (λ off. let same = ap (λ x. (g.O.Sink.view x).faults) (p.same off).1.1 in omega (arith, same)) (λ on. (p.causes on).later.sink) in
    let rose : c.follow-end.result ≡ end.Unwritten → Rose old.faults between.faults = λ is. by_role (follows_in c.in-Ok.shelf)
    (λ off. absurd (let leads = p.leads off in let no : ⊥ = cc (leads, is) in no))
    (λ on. subst (IsCausedBy _ _) (ap Some is) (p.causes on).caused) in
    record {
      on = hands_fed c.follow-end.result old between last later c.tell_followed.ensures.later rose c.tell_followed.ensures.handed;
      done = c.tell_followed.ensures.done;
      later = omega (arith, later, c.tell_followed.ensures.later);
    }

pub returns-clause-input_later : goal.returns-clause-input_later
returns-clause-input_later g c =
    let p = c.follow-end.ensures in
    by_role (follows_in c.in-Ok.shelf) (λ off. let same = ap (λ x. (g.I.Source.view x).faults) (p.same off).1.0 in omega (arith, same))
    (λ on. (p.causes on).later.source)

pub returns-clause-back : goal.returns-clause-back
returns-clause-back g c =
    let r = rest (trio_view {G = g.D.Disk}) g.D.Disk.tells (g.R.Rack.tells && g.D.Disk.tells) true (g.R.Rack.view c.args.rack.now) (g.R.Rack.view c.open_shelf.new.rack)
    (g.R.Rack.view c.close_shelf.new.rack) c.args.options.now.shelf c.in-Ok.shelf c.follow-end.new.shelf c.in-Ok.ensures c.close_shelf.ensures in
    back_of _ _ c.requires.home r.home r.later
