use Rattle.std.proofs.Common.{◌≡◌, Ok, Err, sym, subst, rules}
use Rattle.std.specs.Prelude.{◌&&◌}
use Rattle.disk_trio.specs.Trio.{trio_view}
use Rattle.page_follower.specs.OfShelf.Following.{Promotes, PromotesThroughout}
use Rattle.server_command.specs.Feeding.{PromotesOne}
use Rattle.server_command.specs.Racks.{racks_of}
use Rattle.server_command.proofs.Feeds.{rest}
use Rattle.server_command.proofs.Openings.{both_tell}
use Rattle.server_command.proofs.Promotes.{promotes_one, shut_one}
use Rattle.server_command.proofs.feeding.promote_shelf.Goals as goal

pub returns-in-Err-clause-promotes : goal.returns-in-Err-clause-promotes
returns-in-Err-clause-promotes g c = shut_one (trio_view {G = g.D.Disk}) _ _ _ c.in-Err.ensures

pub returns-in-Err-clause-rest : goal.returns-in-Err-clause-rest
returns-in-Err-clause-rest g c = c.in-Err.ensures.rest

pub returns-in-Ok-promoted-clause-promotes : goal.returns-in-Ok-promoted-clause-promotes
returns-in-Ok-promoted-clause-promotes g c =
    let v = trio_view {G = g.D.Disk} in
    let told = g.R.Rack.tells && g.D.Disk.tells in
    let before = g.R.Rack.view c.args.rack.now in
    let mid = g.R.Rack.view c.open_shelf.new.rack in
    let after = g.R.Rack.view c.close_shelf.new.rack in
    let is : c.promote-promoted.result ≡ Ok c.in-Ok-promoted.followed = search rules in
    promotes_one v g.D.Disk.tells told before mid after c.args.number c.in-Ok.shelf c.promote-promoted.new.self (λ t. (both_tell _ _ t).1) c.in-Ok.ensures
    c.close_shelf.ensures (Ok c.in-Ok-promoted.followed)
    (subst (Promotes v g.D.Disk.tells c.in-Ok.shelf c.promote-promoted.new.self) is c.promote-promoted.ensures.promotes)
    (subst (PromotesThroughout v g.D.Disk.tells c.in-Ok.shelf c.promote-promoted.new.self) is c.promote-promoted.ensures.any_moment)

pub returns-in-Ok-promoted-clause-rest : goal.returns-in-Ok-promoted-clause-rest
returns-in-Ok-promoted-clause-rest g c =
    rest (trio_view {G = g.D.Disk}) g.D.Disk.tells (g.R.Rack.tells && g.D.Disk.tells) _ _ _ _ c.args.number c.in-Ok.shelf c.promote-promoted.new.self c.in-Ok.ensures
    c.close_shelf.ensures

pub returns-in-Err-promoted-clause-promotes : goal.returns-in-Err-promoted-clause-promotes
returns-in-Err-promoted-clause-promotes g c =
    let v = trio_view {G = g.D.Disk} in
    let told = g.R.Rack.tells && g.D.Disk.tells in
    let before = g.R.Rack.view c.args.rack.now in
    let mid = g.R.Rack.view c.open_shelf.new.rack in
    let after = g.R.Rack.view c.close_shelf.new.rack in
    let is : c.promote-promoted.result ≡ Err c.in-Err-promoted.reply = search rules in
    subst (λ why. PromotesOne v (racks_of told before after) c.args.number (Err why)) (sym c.unpromoted.ensures)
    (promotes_one v g.D.Disk.tells told before mid after c.args.number c.in-Ok.shelf c.promote-promoted.new.self (λ t. (both_tell _ _ t).1) c.in-Ok.ensures
    c.close_shelf.ensures (Err c.in-Err-promoted.reply)
    (subst (Promotes v g.D.Disk.tells c.in-Ok.shelf c.promote-promoted.new.self) is c.promote-promoted.ensures.promotes)
    (subst (PromotesThroughout v g.D.Disk.tells c.in-Ok.shelf c.promote-promoted.new.self) is c.promote-promoted.ensures.any_moment))

pub returns-in-Err-promoted-clause-rest : goal.returns-in-Err-promoted-clause-rest
returns-in-Err-promoted-clause-rest g c =
    rest (trio_view {G = g.D.Disk}) g.D.Disk.tells (g.R.Rack.tells && g.D.Disk.tells) _ _ _ _ c.args.number c.in-Ok.shelf c.promote-promoted.new.self c.in-Ok.ensures
    c.close_shelf.ensures
