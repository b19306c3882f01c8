use Rattle.std.proofs.Common.{◌≡◌, rules}
use Rattle.std.specs.Prelude.{◌&&◌}
use Rattle.disk_trio.specs.Trio.{trio_view}
use Rattle.site_serving.specs.Serving.{pasts_of, views}
use Rattle.server_command.specs.Command.{HasCause, IsComplete, IsTidy, around, met_in, texts}
use Rattle.server_command.specs.Ending.{HasEnded}
use Rattle.server_command.specs.Order.{both}
use Rattle.server_command.specs.Racks.{racks_of}
use Rattle.server_command.proofs.Lent.{as_left, as_lent}
use Rattle.server_command.proofs.Audited.{has_cause, has_ended, is_complete}
use Rattle.server_command.proofs.Whole.{tidies}
use Rattle.server_command.proofs.program.command.Goals as goal

pub returns-clause-ended : goal.returns-clause-ended
returns-clause-ended g c =
    let same = c.new-outside.ensures in
    let rack : c.run.new.self.rack.now ≡ c.rack-1.given.0 = search rules in
    let door : c.run.new.self.door.now ≡ c.door-1.given.0 = search rules in
    let seeds : c.run.new.self.seeds.now ≡ c.seeds-1.given.0 = search rules in
    let past : c.run.new.self.past.now ≡ c.past-1.given.0 = search rules in
    as_left (λ rack_left door_left seeds_left past_left. HasEnded g.R.Rack.view c.code_of.result (around (texts c.args.words.now)
    (views (trio_view {G = g.D.Disk}) g.D.Disk.tells g.A.Porch.Link.Link.view g.A.Porch.Porch.view g.N.Nonces.nonce (g.C.Clock.shows c.args.clock.now))
    (both (g.I.Source.view c.args.input.now) (g.I.Source.view c.run.new.input)) (both (g.O.Sink.view c.args.output.now) (g.O.Sink.view c.run.new.output))
    (racks_of (g.R.Rack.tells && g.D.Disk.tells) (g.R.Rack.view c.args.rack.now) (g.R.Rack.view rack_left))
    (both (g.A.Door.view c.args.door.now) (g.A.Door.view door_left)) (both (g.S.Seeds.view c.args.seeds.now) (g.S.Seeds.view seeds_left))
    (pasts_of (g.P.Past.told c.args.past.now) (g.P.Past.told past_left))))
    rack door seeds past
    (as_lent (λ rack_lent door_lent clock_lent seeds_lent past_lent. HasEnded g.R.Rack.view c.code_of.result (around (texts c.args.words.now)
    (views (trio_view {G = g.D.Disk}) g.D.Disk.tells g.A.Porch.Link.Link.view g.A.Porch.Porch.view g.N.Nonces.nonce (g.C.Clock.shows clock_lent))
    (both (g.I.Source.view c.args.input.now) (g.I.Source.view c.run.new.input)) (both (g.O.Sink.view c.args.output.now) (g.O.Sink.view c.run.new.output))
    (racks_of (g.R.Rack.tells && g.D.Disk.tells) (g.R.Rack.view rack_lent) (g.R.Rack.view c.run.new.self.rack.now))
    (both (g.A.Door.view door_lent) (g.A.Door.view c.run.new.self.door.now)) (both (g.S.Seeds.view seeds_lent) (g.S.Seeds.view c.run.new.self.seeds.now))
    (pasts_of (g.P.Past.told past_lent) (g.P.Past.told c.run.new.self.past.now))))
    same.rack.0 same.door.0 same.clock same.seeds.0 same.past.0
    (has_ended g.R.Rack.view _ c.transcripts_are_runs.ensures _ c.run.result c.code_of.ensures c.run.ensures.ended))

pub returns-clause-complete : goal.returns-clause-complete
returns-clause-complete g c =
    let same = c.new-outside.ensures in
    let rack : c.run.new.self.rack.now ≡ c.rack-1.given.0 = search rules in
    let door : c.run.new.self.door.now ≡ c.door-1.given.0 = search rules in
    let seeds : c.run.new.self.seeds.now ≡ c.seeds-1.given.0 = search rules in
    let past : c.run.new.self.past.now ≡ c.past-1.given.0 = search rules in
    as_left (λ rack_left door_left seeds_left past_left. IsComplete c.code_of.result (met_in (around (texts c.args.words.now)
    (views (trio_view {G = g.D.Disk}) g.D.Disk.tells g.A.Porch.Link.Link.view g.A.Porch.Porch.view g.N.Nonces.nonce (g.C.Clock.shows c.args.clock.now))
    (both (g.I.Source.view c.args.input.now) (g.I.Source.view c.run.new.input)) (both (g.O.Sink.view c.args.output.now) (g.O.Sink.view c.run.new.output))
    (racks_of (g.R.Rack.tells && g.D.Disk.tells) (g.R.Rack.view c.args.rack.now) (g.R.Rack.view rack_left))
    (both (g.A.Door.view c.args.door.now) (g.A.Door.view door_left)) (both (g.S.Seeds.view c.args.seeds.now) (g.S.Seeds.view seeds_left))
    (pasts_of (g.P.Past.told c.args.past.now) (g.P.Past.told past_left)))))
    rack door seeds past
    (as_lent (λ rack_lent door_lent clock_lent seeds_lent past_lent. IsComplete c.code_of.result (met_in (around (texts c.args.words.now)
    (views (trio_view {G = g.D.Disk}) g.D.Disk.tells g.A.Porch.Link.Link.view g.A.Porch.Porch.view g.N.Nonces.nonce (g.C.Clock.shows clock_lent))
    (both (g.I.Source.view c.args.input.now) (g.I.Source.view c.run.new.input)) (both (g.O.Sink.view c.args.output.now) (g.O.Sink.view c.run.new.output))
    (racks_of (g.R.Rack.tells && g.D.Disk.tells) (g.R.Rack.view rack_lent) (g.R.Rack.view c.run.new.self.rack.now))
    (both (g.A.Door.view door_lent) (g.A.Door.view c.run.new.self.door.now)) (both (g.S.Seeds.view seeds_lent) (g.S.Seeds.view c.run.new.self.seeds.now))
    (pasts_of (g.P.Past.told past_lent) (g.P.Past.told c.run.new.self.past.now)))))
    same.rack.0 same.door.0 same.clock same.seeds.0 same.past.0
    (is_complete g.R.Rack.view _ _ c.run.result c.code_of.ensures c.run.ensures.ended))

pub returns-clause-cause : goal.returns-clause-cause
returns-clause-cause g c =
    let same = c.new-outside.ensures in
    let rack : c.run.new.self.rack.now ≡ c.rack-1.given.0 = search rules in
    let door : c.run.new.self.door.now ≡ c.door-1.given.0 = search rules in
    let seeds : c.run.new.self.seeds.now ≡ c.seeds-1.given.0 = search rules in
    let past : c.run.new.self.past.now ≡ c.past-1.given.0 = search rules in
    as_left (λ rack_left door_left seeds_left past_left. HasCause c.code_of.result (met_in (around (texts c.args.words.now)
    (views (trio_view {G = g.D.Disk}) g.D.Disk.tells g.A.Porch.Link.Link.view g.A.Porch.Porch.view g.N.Nonces.nonce (g.C.Clock.shows c.args.clock.now))
    (both (g.I.Source.view c.args.input.now) (g.I.Source.view c.run.new.input)) (both (g.O.Sink.view c.args.output.now) (g.O.Sink.view c.run.new.output))
    (racks_of (g.R.Rack.tells && g.D.Disk.tells) (g.R.Rack.view c.args.rack.now) (g.R.Rack.view rack_left))
    (both (g.A.Door.view c.args.door.now) (g.A.Door.view door_left)) (both (g.S.Seeds.view c.args.seeds.now) (g.S.Seeds.view seeds_left))
    (pasts_of (g.P.Past.told c.args.past.now) (g.P.Past.told past_left)))))
    rack door seeds past
    (as_lent (λ rack_lent door_lent clock_lent seeds_lent past_lent. HasCause c.code_of.result (met_in (around (texts c.args.words.now)
    (views (trio_view {G = g.D.Disk}) g.D.Disk.tells g.A.Porch.Link.Link.view g.A.Porch.Porch.view g.N.Nonces.nonce (g.C.Clock.shows clock_lent))
    (both (g.I.Source.view c.args.input.now) (g.I.Source.view c.run.new.input)) (both (g.O.Sink.view c.args.output.now) (g.O.Sink.view c.run.new.output))
    (racks_of (g.R.Rack.tells && g.D.Disk.tells) (g.R.Rack.view rack_lent) (g.R.Rack.view c.run.new.self.rack.now))
    (both (g.A.Door.view door_lent) (g.A.Door.view c.run.new.self.door.now)) (both (g.S.Seeds.view seeds_lent) (g.S.Seeds.view c.run.new.self.seeds.now))
    (pasts_of (g.P.Past.told past_lent) (g.P.Past.told c.run.new.self.past.now)))))
    same.rack.0 same.door.0 same.clock same.seeds.0 same.past.0
    (has_cause g.R.Rack.view _ _ c.run.result c.code_of.ensures c.run.ensures.ended))

pub returns-clause-leaves : goal.returns-clause-leaves
returns-clause-leaves g c =
    let same = c.new-outside.ensures in
    let rack : c.run.new.self.rack.now ≡ c.rack-1.given.0 = search rules in
    let door : c.run.new.self.door.now ≡ c.door-1.given.0 = search rules in
    let seeds : c.run.new.self.seeds.now ≡ c.seeds-1.given.0 = search rules in
    let past : c.run.new.self.past.now ≡ c.past-1.given.0 = search rules in
    as_left (λ rack_left door_left seeds_left past_left. IsTidy c.code_of.result (around (texts c.args.words.now)
    (views (trio_view {G = g.D.Disk}) g.D.Disk.tells g.A.Porch.Link.Link.view g.A.Porch.Porch.view g.N.Nonces.nonce (g.C.Clock.shows c.args.clock.now))
    (both (g.I.Source.view c.args.input.now) (g.I.Source.view c.run.new.input)) (both (g.O.Sink.view c.args.output.now) (g.O.Sink.view c.run.new.output))
    (racks_of (g.R.Rack.tells && g.D.Disk.tells) (g.R.Rack.view c.args.rack.now) (g.R.Rack.view rack_left))
    (both (g.A.Door.view c.args.door.now) (g.A.Door.view door_left)) (both (g.S.Seeds.view c.args.seeds.now) (g.S.Seeds.view seeds_left))
    (pasts_of (g.P.Past.told c.args.past.now) (g.P.Past.told past_left))))
    rack door seeds past
    (as_lent (λ rack_lent door_lent clock_lent seeds_lent past_lent. IsTidy c.code_of.result (around (texts c.args.words.now)
    (views (trio_view {G = g.D.Disk}) g.D.Disk.tells g.A.Porch.Link.Link.view g.A.Porch.Porch.view g.N.Nonces.nonce (g.C.Clock.shows clock_lent))
    (both (g.I.Source.view c.args.input.now) (g.I.Source.view c.run.new.input)) (both (g.O.Sink.view c.args.output.now) (g.O.Sink.view c.run.new.output))
    (racks_of (g.R.Rack.tells && g.D.Disk.tells) (g.R.Rack.view rack_lent) (g.R.Rack.view c.run.new.self.rack.now))
    (both (g.A.Door.view door_lent) (g.A.Door.view c.run.new.self.door.now)) (both (g.S.Seeds.view seeds_lent) (g.S.Seeds.view c.run.new.self.seeds.now))
    (pasts_of (g.P.Past.told past_lent) (g.P.Past.told c.run.new.self.past.now))))
    same.rack.0 same.door.0 same.clock same.seeds.0 same.past.0
    (tidies _ _ c.run.result c.code_of.ensures c.run.ensures.hands c.run.ensures.back c.run.ensures.input_later
    c.run.ensures.door_later c.run.ensures.seeds_later))
