use Rattle.std.proofs.Common.{◌≡◌, Ok, Err, refl, rules}
use Rattle.std.specs.Prelude.{◌&&◌}
use Rattle.command_words.specs.declared.Command.TheVariants.{Audit, Check, Export, Follow, Load, Play, Promote, Serve}
use Rattle.command_words.specs.declared.WordsFault.TheVariants.{Usage}
use Rattle.disk_trio.specs.Trio.{trio_view}
use Rattle.site_serving.specs.Serving.{pasts_of, views}
use Rattle.server_command.specs.Command.{around, asked_in, asks_in, met_in, serves_in, texts}
use Rattle.server_command.specs.Ending.{audited, exported, fed, promoted}
use Rattle.server_command.specs.Order.{both}
use Rattle.server_command.specs.Racks.{racks_of}
use Rattle.server_command.proofs.Audited.{job_so, usage_so, without_any, unworded_so}
use Rattle.server_command.proofs.Causes.{asks_if, asks_nothing, unworded}
use Rattle.server_command.proofs.Endings.{at_rest}
use Rattle.server_command.proofs.Orders.{unworded_order}
use Rattle.server_command.proofs.outside.Outside.run.Goals as goal

pub returns-in-Ok-Check-clause-ended : goal.returns-in-Ok-Check-clause-ended
returns-in-Ok-Check-clause-ended g c =
    let a = around (texts c.args.words.now) (views (trio_view {G = g.D.Disk}) g.D.Disk.tells g.A.Porch.Link.Link.view g.A.Porch.Porch.view g.N.Nonces.nonce (g.C.Clock.shows c.args.self.now.clock.now))
    (both (g.I.Source.view c.args.input.now) (g.I.Source.view c.run_job.new.input)) (both (g.O.Sink.view c.args.output.now) (g.O.Sink.view c.run_job.new.output))
    (racks_of (g.R.Rack.tells && g.D.Disk.tells) (g.R.Rack.view c.args.self.now.rack.now) (g.R.Rack.view c.run_job.new.rack))
    (both (g.A.Door.view c.args.self.now.door.now) (g.A.Door.view c.args.self.now.door.now)) (both (g.S.Seeds.view c.args.self.now.seeds.now) (g.S.Seeds.view c.args.self.now.seeds.now))
    (pasts_of (g.P.Past.told c.args.self.now.past.now) (g.P.Past.told c.args.self.now.past.now)) in
    let is : c.read_words.result ≡ Ok Check = search rules in
    let asked = asks_if (texts c.args.words.now) _ Check is c.read_words.ensures.fine c.read_words.ensures.found in
    let comes = c.run_job.ensures.comes _ _ _ in
    job_so g.R.Rack.view a Check c.run_job.result asked tt (refl, refl) refl comes.0 comes.1 c.run_job.ensures.asked

pub returns-in-Ok-Play-clause-ended : goal.returns-in-Ok-Play-clause-ended
returns-in-Ok-Play-clause-ended g c =
    let a = around (texts c.args.words.now) (views (trio_view {G = g.D.Disk}) g.D.Disk.tells g.A.Porch.Link.Link.view g.A.Porch.Porch.view g.N.Nonces.nonce (g.C.Clock.shows c.args.self.now.clock.now))
    (both (g.I.Source.view c.args.input.now) (g.I.Source.view c.run_job-in-Ok-Play.new.input)) (both (g.O.Sink.view c.args.output.now) (g.O.Sink.view c.run_job-in-Ok-Play.new.output))
    (racks_of (g.R.Rack.tells && g.D.Disk.tells) (g.R.Rack.view c.args.self.now.rack.now) (g.R.Rack.view c.run_job-in-Ok-Play.new.rack))
    (both (g.A.Door.view c.args.self.now.door.now) (g.A.Door.view c.args.self.now.door.now)) (both (g.S.Seeds.view c.args.self.now.seeds.now) (g.S.Seeds.view c.args.self.now.seeds.now))
    (pasts_of (g.P.Past.told c.args.self.now.past.now) (g.P.Past.told c.args.self.now.past.now)) in
    let is : c.read_words.result ≡ Ok (Play c.in-Ok-Play.options) = search rules in
    let asked = asks_if (texts c.args.words.now) _ (Play c.in-Ok-Play.options) is c.read_words.ensures.fine c.read_words.ensures.found in
    let comes = c.run_job-in-Ok-Play.ensures.comes _ _ _ in
    job_so g.R.Rack.view a (Play c.in-Ok-Play.options) c.run_job-in-Ok-Play.result asked tt (refl, refl) refl comes.0 comes.1 c.run_job-in-Ok-Play.ensures.asked

pub returns-in-Ok-Load-clause-ended : goal.returns-in-Ok-Load-clause-ended
returns-in-Ok-Load-clause-ended g c =
    let a = around (texts c.args.words.now) (views (trio_view {G = g.D.Disk}) g.D.Disk.tells g.A.Porch.Link.Link.view g.A.Porch.Porch.view g.N.Nonces.nonce (g.C.Clock.shows c.args.self.now.clock.now))
    (both (g.I.Source.view c.args.input.now) (g.I.Source.view c.args.input.now)) (both (g.O.Sink.view c.args.output.now) (g.O.Sink.view c.load_all.new.output))
    (racks_of (g.R.Rack.tells && g.D.Disk.tells) (g.R.Rack.view c.args.self.now.rack.now) (g.R.Rack.view c.load_all.new.rack))
    (both (g.A.Door.view c.args.self.now.door.now) (g.A.Door.view c.args.self.now.door.now)) (both (g.S.Seeds.view c.args.self.now.seeds.now) (g.S.Seeds.view c.args.self.now.seeds.now))
    (pasts_of (g.P.Past.told c.args.self.now.past.now) (g.P.Past.told c.args.self.now.past.now)) in
    let is : c.read_words.result ≡ Ok (Load c.in-Ok-Load.options) = search rules in
    let asked = asks_if (texts c.args.words.now) _ (Load c.in-Ok-Load.options) is c.read_words.ensures.fine c.read_words.ensures.found in
    let left = c.load_all.ensures.leaves in
    job_so g.R.Rack.view a (Load c.in-Ok-Load.options) c.load_all.result asked tt (refl, refl) refl left.0 ((refl, refl), left.1) c.load_all.ensures.asked

pub returns-in-Ok-Serve-clause-ended : goal.returns-in-Ok-Serve-clause-ended
returns-in-Ok-Serve-clause-ended g c =
    let is : c.read_words.result ≡ Ok (Serve c.in-Ok-Serve.service) = search rules in
    c.run_service.ensures.ended (texts c.args.words.now)
    (asks_if (texts c.args.words.now) _ (Serve c.in-Ok-Serve.service) is c.read_words.ensures.fine c.read_words.ensures.found)

pub returns-in-Ok-Audit-clause-ended : goal.returns-in-Ok-Audit-clause-ended
returns-in-Ok-Audit-clause-ended g c =
    let is : c.read_words.result ≡ Ok (Audit c.in-Ok-Audit.options) = search rules in
    audited c.in-Ok-Audit.options
    (asks_if (texts c.args.words.now) _ (Audit c.in-Ok-Audit.options) is c.read_words.ensures.fine c.read_words.ensures.found)
    (record { untouched = (refl, refl); undrawn = refl; shut = (refl, refl); leaves = c.audit_all.ensures.leaves })

pub returns-in-Ok-Export-clause-ended : goal.returns-in-Ok-Export-clause-ended
returns-in-Ok-Export-clause-ended g c =
    let is : c.read_words.result ≡ Ok (Export c.in-Ok-Export.options) = search rules in
    exported c.in-Ok-Export.options
    (asks_if (texts c.args.words.now) _ (Export c.in-Ok-Export.options) is c.read_words.ensures.fine c.read_words.ensures.found)
    (record { untouched = (refl, refl); undrawn = refl; shut = (refl, refl); leaves = c.export_shelf.ensures.leaves })

pub returns-in-Ok-Follow-clause-ended : goal.returns-in-Ok-Follow-clause-ended
returns-in-Ok-Follow-clause-ended g c =
    let is : c.read_words.result ≡ Ok (Follow c.in-Ok-Follow.options) = search rules in
    fed c.in-Ok-Follow.options
    (asks_if (texts c.args.words.now) _ (Follow c.in-Ok-Follow.options) is c.read_words.ensures.fine c.read_words.ensures.found)
    (record { undrawn = refl; shut = (refl, refl); leaves = c.follow_feed.ensures.leaves })

pub returns-in-Ok-Promote-clause-ended : goal.returns-in-Ok-Promote-clause-ended
returns-in-Ok-Promote-clause-ended g c =
    let is : c.read_words.result ≡ Ok (Promote c.in-Ok-Promote.options) = search rules in
    promoted c.in-Ok-Promote.options
    (asks_if (texts c.args.words.now) _ (Promote c.in-Ok-Promote.options) is c.read_words.ensures.fine c.read_words.ensures.found)
    (record { untouched = (refl, refl); undrawn = refl; shut = (refl, refl); leaves = c.promote_all.ensures.leaves })

pub returns-in-Err-Usage-clause-ended : goal.returns-in-Err-Usage-clause-ended
returns-in-Err-Usage-clause-ended g c =
    let a = around (texts c.args.words.now) (views (trio_view {G = g.D.Disk}) g.D.Disk.tells g.A.Porch.Link.Link.view g.A.Porch.Porch.view g.N.Nonces.nonce (g.C.Clock.shows c.args.self.now.clock.now))
    (both (g.I.Source.view c.args.input.now) (g.I.Source.view c.args.input.now)) (both (g.O.Sink.view c.args.output.now) (g.O.Sink.view c.write_or_drop.new.sink))
    (racks_of (g.R.Rack.tells && g.D.Disk.tells) (g.R.Rack.view c.args.self.now.rack.now) (g.R.Rack.view c.args.self.now.rack.now))
    (both (g.A.Door.view c.args.self.now.door.now) (g.A.Door.view c.args.self.now.door.now)) (both (g.S.Seeds.view c.args.self.now.seeds.now) (g.S.Seeds.view c.args.self.now.seeds.now))
    (pasts_of (g.P.Past.told c.args.self.now.past.now) (g.P.Past.told c.args.self.now.past.now)) in
    let usage : c.read_words.result ≡ Err Usage = search rules in
    usage_so g.R.Rack.view a (asks_nothing (texts c.args.words.now) (c.read_words.ensures.usage usage)) c.write_or_drop.ensures.written (refl, refl)
    (at_rest _ _) refl (refl, refl)

pub returns-in-Err-Memory-clause-ended : goal.returns-in-Err-Memory-clause-ended
returns-in-Err-Memory-clause-ended g c =
    let a = around (texts c.args.words.now) (views (trio_view {G = g.D.Disk}) g.D.Disk.tells g.A.Porch.Link.Link.view g.A.Porch.Porch.view g.N.Nonces.nonce (g.C.Clock.shows c.args.self.now.clock.now))
    (both (g.I.Source.view c.args.input.now) (g.I.Source.view c.args.input.now)) (both (g.O.Sink.view c.args.output.now) (g.O.Sink.view c.no_memory.new.output))
    (racks_of (g.R.Rack.tells && g.D.Disk.tells) (g.R.Rack.view c.args.self.now.rack.now) (g.R.Rack.view c.args.self.now.rack.now))
    (both (g.A.Door.view c.args.self.now.door.now) (g.A.Door.view c.args.self.now.door.now)) (both (g.S.Seeds.view c.args.self.now.seeds.now) (g.S.Seeds.view c.args.self.now.seeds.now))
    (pasts_of (g.P.Past.told c.args.self.now.past.now) (g.P.Past.told c.args.self.now.past.now)) in
    unworded_so g.R.Rack.view a c.no_memory.result (without_any (asked_in a.words) _ _)
    (unworded (serves_in a) c.no_memory.result (met_in a) c.no_memory.ensures.status c.no_memory.ensures.line (refl, refl) (at_rest _ _))
    (unworded_order (asks_in a) a.rack (asked_in a.words) c.no_memory.result c.no_memory.ensures.status refl (refl, refl) (at_rest _ _))
