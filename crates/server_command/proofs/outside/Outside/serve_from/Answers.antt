use Rattle.std.proofs.Common.{◌≡◌, ◌∙◌, length, refl, subst, sym}
use Rattle.std.specs.Prelude.{IsTrue, ◌&&◌}
use Rattle.script_nodes.specs.Views.{scripts_of}
use Rattle.disk_trio.specs.Trio.{trio_view}
use Rattle.site_serving.specs.Serving.{ComesTo, openings_in, openings_of, pasts_of, views}
use Rattle.play_desk.specs.Asking.{AsksForFirst}
use Rattle.server_command.specs.Order.{ComesInOrder, asks_of, both}
use Rattle.server_command.specs.Opening.{AreOut, TakesBack}
use Rattle.server_command.specs.Output.{rules_for}
use Rattle.server_command.specs.Racks.{racks_of}
use Rattle.server_command.specs.Serving.{AreOwn, ServesBy, outside, serves_over}
use Rattle.server_command.proofs.Openings.{all_home, both_tell, given_asked}
use Rattle.server_command.proofs.Orders.{told_order}
use Rattle.server_command.proofs.Owned.{all_own}
use Rattle.server_command.proofs.Servings.{refuses_of, serves_of}
use Rattle.server_command.proofs.outside.Outside.serve_from.Goals as goal

pub returns-clause-served : goal.returns-clause-served
returns-clause-served g c = λ seeds drawn.
    let scripts = scripts_of c.args.setup in
    let before = g.R.Rack.view c.args.self.now.rack.now in
    let middle = g.R.Rack.view c.open_site.new.rack in
    let last = g.R.Rack.view c.give_all.new.rack in
    let sources = c.args.sources.items in
    let disks = c.serve_site-disks.result.0.items in
    let pasts = pasts_of (g.P.Past.told c.args.self.now.past.now) (g.P.Past.told c.serve_site-disks.new.past) in
    let rack = racks_of (g.R.Rack.tells && g.D.Disk.tells) before last in
    let o = outside (views (trio_view {G = g.D.Disk}) g.D.Disk.tells g.A.Porch.Link.Link.view g.A.Porch.Porch.view g.N.Nonces.nonce (g.C.Clock.shows c.args.self.now.clock.now))
    rack (g.A.Door.view c.args.self.now.door.now) (g.A.Door.view c.serve_site-disks.new.door) seeds.before pasts in
    let asks = asks_of (both (g.A.Door.view c.args.self.now.door.now) (g.A.Door.view c.serve_site-disks.new.door)) seeds pasts in
    let p = c.in-Ok.ensures.opened in
    let count = c.requires.sources in
    let shelves = c.args.service.now.options.shelves in
    let many : length disks ≡ length sources = c.serve_site-disks.ensures.disks ∙ (c.in-Ok.ensures.count ∙ sym count) in
    let comes = subst (λ w. ComesTo o.views (openings_in (trio_view {G = g.D.Disk}) g.D.Disk.tells g.N.Nonces.nonce c.in-Ok.site) o.before o.after o.past w disks c.serve_site-disks.result.1)
    c.watch_of.ensures c.serve_site-disks.ensures.comes in
    let own : IsTrue c.args.service.now.audit → IsTrue rack.tells → AreOwn o.views.disk o.views.told (openings_of c.in-Ok.site.row.homes) = λ audited t. all_own o.views.disk o.views.told (IsTrue rack.tells) o.views.nonce (rules_for c.args.service.now.options) scripts shelves before p.images sources
    (openings_of c.in-Ok.site.row.homes) t (p.taken.many ∙ count) (p.taken.held t) (c.requires.audited audited t) p.opened in
    let served = serves_of o c.args.service.now scripts sources middle (openings_of c.in-Ok.site.row.homes) disks c.serve_site-disks.result.1 count drawn p
    (λ t. (both_tell _ _ t).1) many
    (λ t k d d_is. c.give_all.ensures.given.held t (subst (AreOut middle) (sym many) p.taken.out) k d d_is)
    c.give_all.ensures.given.others c.give_all.ensures.given.counts own comes in (
      (p.images, subst (ServesBy (serves_over o) c.args.service.now scripts p.images) (sym c.told_as.ensures) served),
      subst (ComesInOrder asks rack shelves) (sym c.told_as.ensures)
          (told_order asks rack shelves c.serve_site-disks.result.1 (record { sources = sources; many = count; drawn = drawn })
          (subst (λ n. AsksForFirst n rack.before rack.after) count
          (given_asked (length sources) rack.before middle rack.after p.taken.asked c.give_all.ensures.back.asked))),
    )

pub returns-in-Err-clause-served : goal.returns-in-Err-clause-served
returns-in-Err-clause-served g c = λ seeds drawn.
    let before = g.R.Rack.view c.args.self.now.rack.now in
    let last = g.R.Rack.view c.open_site.new.rack in
    let door = g.A.Door.view c.args.self.now.door.now in
    let told = g.P.Past.told c.args.self.now.past.now in
    let o = outside (views (trio_view {G = g.D.Disk}) g.D.Disk.tells g.A.Porch.Link.Link.view g.A.Porch.Porch.view g.N.Nonces.nonce (g.C.Clock.shows c.args.self.now.clock.now))
    (racks_of (g.R.Rack.tells && g.D.Disk.tells) before last) door door seeds.before (pasts_of told told) in
    let p = c.in-Err.ensures.refused in (
      (p.images, refuses_of o c.args.service.now (scripts_of c.args.setup) c.in-Err.fault (refl, refl) p),
      (record { sources = c.args.sources.items; many = c.requires.sources; drawn = drawn }, (refl, refl), p.asked),
    )

pub returns-clause-home : goal.returns-clause-home
returns-clause-home g c =
    let before = g.R.Rack.view c.args.self.now.rack.now in
    let middle = g.R.Rack.view c.open_site.new.rack in
    let last = g.R.Rack.view c.give_all.new.rack in
    let p = c.in-Ok.ensures.opened in
    let many : length c.serve_site-disks.result.0.items ≡ length c.args.sources.items =
    c.serve_site-disks.ensures.disks ∙ (c.in-Ok.ensures.count ∙ sym c.requires.sources) in
    all_home (IsTrue (g.R.Rack.tells && g.D.Disk.tells)) before middle last (length c.args.sources.items) p.images p.taken
    (subst (TakesBack middle last 0) many c.give_all.ensures.back)
