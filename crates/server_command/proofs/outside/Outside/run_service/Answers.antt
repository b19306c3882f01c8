use Rattle.std.proofs.Common.{◌≡◌, Err, rules, refl, subst, arith}
use Rattle.std.specs.Prelude.{◌&&◌}
use Rattle.script_nodes.specs.Views.{scripts_of}
use Rattle.trio_rack.proofs.Homes.{disks_home, shelves_home}
use Rattle.disk_trio.specs.Trio.{trio_view}
use Rattle.site_serving.specs.Serving.{pasts_of, views}
use Rattle.server_command.specs.Command.{IsSetupOf, TellsNoSetup, around, asks_in, met_in, serves_in}
use Rattle.server_command.specs.Order.{both}
use Rattle.server_command.specs.Racks.{racks_of}
use Rattle.server_command.specs.Output.{Hands, sinks_of}
use Rattle.server_command.specs.Telling.{TellsOutcome}
use Rattle.server_command.proofs.Audited.{outcome_ends, plainly_served, serving_so}
use Rattle.server_command.proofs.Causes.{served_came, unread_by, unread_served}
use Rattle.server_command.proofs.Endings.{at_rest}
use Rattle.server_command.proofs.Orders.{idle, setup_order, unread_order}
use Rattle.server_command.proofs.Servings.{unread_left}
use Rattle.server_command.proofs.Short.{can_begin}
use Rattle.server_command.proofs.outside.Outside.run_service.Goals as goal

pub returns-in-Err-clause-ended : goal.returns-in-Err-clause-ended
returns-in-Err-clause-ended g c = λ words asked.
    let a = around words (views (trio_view {G = g.D.Disk}) g.D.Disk.tells g.A.Porch.Link.Link.view g.A.Porch.Porch.view g.N.Nonces.nonce (g.C.Clock.shows c.args.self.now.clock.now))
    (both (g.I.Source.view c.args.input.now) (g.I.Source.view c.read_all.new.source)) (both (g.O.Sink.view c.args.output.now) (g.O.Sink.view c.tell_unread.new.output))
    (racks_of (g.R.Rack.tells && g.D.Disk.tells) (g.R.Rack.view c.args.self.now.rack.now) (g.R.Rack.view c.args.self.now.rack.now))
    (both (g.A.Door.view c.args.self.now.door.now) (g.A.Door.view c.args.self.now.door.now)) (both (g.S.Seeds.view c.args.self.now.seeds.now) (g.S.Seeds.view c.args.self.now.seeds.now))
    (pasts_of (g.P.Past.told c.args.self.now.past.now) (g.P.Past.told c.args.self.now.past.now)) in
    let is : c.read_all.result ≡ Err c.in-Err.fault = search rules in
    let asks = asks_in a in
    plainly_served g.R.Rack.view a c.args.service.now c.tell_unread.result asked (λ on. refl)
    (serving_so a c.args.service.now c.tell_unread.result asked
    (unread_served (serves_in a) c.args.service.now c.tell_unread.result (met_in a) c.in-Err.fault c.tell_unread.ensures.status
    (unread_by (met_in a) c.read_all.result c.in-Err.fault is c.tell_unread.ensures.line c.read_all.ensures.long c.read_all.ensures.failed
    c.read_all.ensures.short c.read_all.ensures.front (at_rest _ _))
    (at_rest _ _) (refl, refl))
    (unread_order asks a.rack c.args.service.now.options.shelves c.in-Err.fault c.tell_unread.result c.tell_unread.ensures.status
    (idle asks _ _ refl (refl, refl))))

pub returns-in-Err-parse_setup-clause-ended : goal.returns-in-Err-parse_setup-clause-ended
returns-in-Err-parse_setup-clause-ended g c = λ words asked.
    let a = around words (views (trio_view {G = g.D.Disk}) g.D.Disk.tells g.A.Porch.Link.Link.view g.A.Porch.Porch.view g.N.Nonces.nonce (g.C.Clock.shows c.args.self.now.clock.now))
    (both (g.I.Source.view c.args.input.now) (g.I.Source.view c.read_all.new.source)) (both (g.O.Sink.view c.args.output.now) (g.O.Sink.view c.parse_setup.new.output))
    (racks_of (g.R.Rack.tells && g.D.Disk.tells) (g.R.Rack.view c.args.self.now.rack.now) (g.R.Rack.view c.args.self.now.rack.now))
    (both (g.A.Door.view c.args.self.now.door.now) (g.A.Door.view c.args.self.now.door.now)) (both (g.S.Seeds.view c.args.self.now.seeds.now) (g.S.Seeds.view c.args.self.now.seeds.now))
    (pasts_of (g.P.Past.told c.args.self.now.past.now) (g.P.Past.told c.args.self.now.past.now)) in
    let out = (met_in a).output in
    let none = subst (λ bytes. TellsNoSetup bytes out c.in-Err-parse_setup.status) c.deref.ensures.value c.in-Err-parse_setup.ensures.none in
    let asks = asks_in a in
    plainly_served g.R.Rack.view a c.args.service.now c.in-Err-parse_setup.status asked (λ on. refl)
    (serving_so a c.args.service.now c.in-Err-parse_setup.status asked
    (served_came (serves_in a) c.args.service.now c.in-Err-parse_setup.status (met_in a) c.in-Ok.bytes.items refl c.in-Ok.ensures.whole c.in-Ok.ensures.end
    (omega (arith, c.in-Ok.bytes.ok.0, c.in-Ok.ensures.within))
    (unread_left (serves_in a) c.args.service.now c.in-Ok.bytes.items c.in-Err-parse_setup.status out (met_in a).door (met_in a).seeds none (refl, refl)
    (at_rest _ _)))
    (setup_order asks a.rack c.args.service.now.options.shelves _ _ c.in-Err-parse_setup.status c.in-Err-parse_setup.ensures.none
    (idle asks _ _ refl (refl, refl))))

pub serve-outcome-requires-clause-begins : goal.serve-outcome-requires-clause-begins
serve-outcome-requires-clause-begins g c = λ lifetimes outlive.
    can_begin c.args.service.now.options.shelves (scripts_of c.in-Ok-parse_setup.setup) c.requires.can.options.shelves.1
    c.in-Ok-parse_setup.ensures.few c.in-Ok-parse_setup.ensures.short

pub returns-clause-ended : goal.returns-clause-ended
returns-clause-ended g c = λ words asked.
    let a = around words (views (trio_view {G = g.D.Disk}) g.D.Disk.tells g.A.Porch.Link.Link.view g.A.Porch.Porch.view g.N.Nonces.nonce (g.C.Clock.shows c.args.self.now.clock.now))
    (both (g.I.Source.view c.args.input.now) (g.I.Source.view c.read_all.new.source)) (both (g.O.Sink.view c.args.output.now) (g.O.Sink.view c.tell_outcome.new.output))
    (racks_of (g.R.Rack.tells && g.D.Disk.tells) (g.R.Rack.view c.args.self.now.rack.now) (g.R.Rack.view c.serve-outcome.new.self.rack.now))
    (both (g.A.Door.view c.args.self.now.door.now) (g.A.Door.view c.serve-outcome.new.self.door.now)) (both (g.S.Seeds.view c.args.self.now.seeds.now) (g.S.Seeds.view c.serve-outcome.new.self.seeds.now))
    (pasts_of (g.P.Past.told c.args.self.now.past.now) (g.P.Past.told c.serve-outcome.new.self.past.now)) in
    let scripts = scripts_of c.in-Ok-parse_setup.setup in
    let setup = subst (λ bytes. IsSetupOf bytes scripts) c.deref.ensures.value c.in-Ok-parse_setup.ensures.setup in
    let tells = subst (λ o. TellsOutcome c.serve-outcome.result c.tell_outcome.result (sinks_of (g.O.Sink.view o) (g.O.Sink.view c.tell_outcome.new.output)))
    c.in-Ok-parse_setup.ensures.same c.tell_outcome.ensures.tells in
    outcome_ends g.R.Rack.view a c.args.service.now c.in-Ok.bytes.items scripts c.serve-outcome.result c.tell_outcome.result asked
    (record { whole = c.in-Ok.ensures.whole; end = c.in-Ok.ensures.end; short = omega (arith, c.in-Ok.bytes.ok.0, c.in-Ok.ensures.within); setup = setup })
    c.serve-outcome.ensures.key c.serve-outcome.ensures.door tells c.serve-outcome.ensures.served

pub returns-clause-back : goal.returns-clause-back
returns-clause-back g c =
    let before = g.R.Rack.view c.args.self.now.rack.now in
    let after = g.R.Rack.view c.serve-outcome.new.self.rack.now in
    record { home = disks_home after (λ n. c.serve-outcome.ensures.home n (shelves_home before c.requires.home n)); later = c.serve-outcome.ensures.rack_later }

pub returns-clause-hands : goal.returns-clause-hands
returns-clause-hands g c =
    subst (λ o. Hands c.tell_outcome.result (g.O.Sink.view o) (g.O.Sink.view c.tell_outcome.new.output)) c.in-Ok-parse_setup.ensures.same
    c.tell_outcome.ensures.hands
