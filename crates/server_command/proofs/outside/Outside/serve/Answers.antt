use Rattle.std.proofs.Common.{◌≡◌, [], Err, Ok, ap, refl, subst, sym, rules}
use Rattle.std.specs.Prelude.{◌&&◌}
use Rattle.script_nodes.specs.Views.{scripts_of}
use Rattle.disk_trio.specs.Trio.{trio_view}
use Rattle.site_serving.specs.Serving.{pasts_of, views}
use Rattle.play_desk.specs.declared.opening.OpenFault.{OpenFault}
use Rattle.server_command.specs.declared.auditing.AuditEnd.{AuditEnd}
use Rattle.server_command.specs.declared.serving.ServeFault.{ServeFault}
use Rattle.server_command.specs.declared.serving.ServeFault.TheVariants as fault
use Rattle.server_command.specs.Ending.{ComesServed, at_once, stopped}
use Rattle.server_command.specs.Order.{asks_of, both}
use Rattle.server_command.specs.Racks.{racks_of}
use Rattle.server_command.specs.Serving.{outside}
use Rattle.server_command.proofs.Audited.{audits_true, served_behind, yes_if}
use Rattle.server_command.proofs.Endings.{at_rest}
use Rattle.server_command.proofs.Orders.{undrawn_order}
use Rattle.server_command.proofs.Servings.{undrawn}
use Rattle.server_command.proofs.outside.Outside.serve.Goals as goal

pub returns-in_err-sources-clause-served : goal.returns-in_err-sources-clause-served
returns-in_err-sources-clause-served g c =
    let why = c.in_err-sources.field-0.0 in
    let told : c.from_residual.result ≡ Err why = search rules in
    let rack = g.R.Rack.view c.args.self.now.rack.now in
    let racks = racks_of (g.R.Rack.tells && g.D.Disk.tells) rack rack in
    let door = g.A.Door.view c.args.self.now.door.now in
    let past = g.P.Past.told c.args.self.now.past.now in
    let o = outside (views (trio_view {G = g.D.Disk}) g.D.Disk.tells g.A.Porch.Link.Link.view g.A.Porch.Porch.view g.N.Nonces.nonce (g.C.Clock.shows c.args.self.now.clock.now))
    racks door door (g.S.Seeds.view c.args.self.now.seeds.now) (pasts_of past past) in
    let asks = asks_of (both door door) (both (g.S.Seeds.view c.args.self.now.seeds.now) (g.S.Seeds.view c.draw_sources.new.seeds)) (pasts_of past past) in
    let s = c.args.service.now in
    let scripts = scripts_of c.args.setup in
    let not_door : why ≡ fault.Door → ⊥ = λ e. c.in_err-sources.ensures.other (ap (λ (w : ServeFault). Err w) e) in
    let not_shelf : (u : OpenFault) → why ≡ fault.Shelf u → ⊥ = λ u e. c.in_err-sources.ensures.none u (ap (λ (w : ServeFault). Err w) e) in
    let not_audit : (u : AuditEnd) → why ≡ fault.Audit u → ⊥ = λ u e. c.in_err-sources.ensures.unaudited u (ap (λ (w : ServeFault). Err w) e) in
    subst (λ r. ComesServed g.R.Rack.view s asks scripts r o) (sym told)
    (at_once (λ audited. refl) (
      ([], undrawn o s scripts why (refl, refl) refl not_door not_shelf not_audit),
      undrawn_order asks racks s.options.shelves why (at_rest _ _) (refl, refl) not_door not_shelf not_audit,
    ))

pub returns-in-Err-clause-served : goal.returns-in-Err-clause-served
returns-in-Err-clause-served g c =
    let is : c.audit_first.result ≡ Err c.in-Err.end = search rules in
    let audits = audits_true c.args.service.now.audit c.audit_first.result c.in-Err.end is (λ off. (c.audit_first.ensures.rests off).0) in
    stopped audits (record {
      end = c.in-Err.end;
      is = refl;
      drawn = record { sources = c.in_ok-sources.sources.items; many = c.in_ok-sources.ensures.count; drawn = c.in_ok-sources.ensures.drawn };
      shut = (refl, refl);
      stops = c.in-Err.ensures.comes audits;
    })

pub serve_from-requires-clause-audited : goal.serve_from-requires-clause-audited
serve_from-requires-clause-audited g c = λ lifetimes outlive audited t.
    yes_if (racks_of (g.R.Rack.tells && g.D.Disk.tells) (g.R.Rack.view c.args.self.now.rack.now) (g.R.Rack.view c.audit_first.new.rack))
    c.args.service.now.options.shelves c.audit_first.result (search rules) (c.audit_first.ensures.comes audited) t

pub returns-clause-served : goal.returns-clause-served
returns-clause-served g c =
    let door = both (g.A.Door.view c.args.self.now.door.now) (g.A.Door.view c.serve_from.new.self.door.now) in
    let seeds = both (g.S.Seeds.view c.args.self.now.seeds.now) (g.S.Seeds.view c.serve_from.new.self.seeds.now) in
    let pasts = pasts_of (g.P.Past.told c.args.self.now.past.now) (g.P.Past.told c.serve_from.new.self.past.now) in
    let o = outside (views (trio_view {G = g.D.Disk}) g.D.Disk.tells g.A.Porch.Link.Link.view g.A.Porch.Porch.view g.N.Nonces.nonce (g.C.Clock.shows c.args.self.now.clock.now))
    (racks_of (g.R.Rack.tells && g.D.Disk.tells) (g.R.Rack.view c.args.self.now.rack.now) (g.R.Rack.view c.serve_from.new.self.rack.now))
    door.before door.after seeds.before pasts in
    let is : c.audit_first.result ≡ Ok tt = search rules in
    served_behind g.R.Rack.view c.args.service.now (asks_of door seeds pasts) (scripts_of c.args.setup) c.serve_from.result o
    c.args.self.now.rack.now c.audit_first.new.rack c.args.service.now.audit c.audit_first.result refl refl
    (λ off. (c.audit_first.ensures.rests off).1) c.audit_first.ensures.comes is
    (c.serve_from.ensures.served seeds c.in_ok-sources.ensures.drawn)
