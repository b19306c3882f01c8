use Rattle.page_names.specs.Views.{target_of}
use Rattle.site.proofs.Seats.{found_at, holds_there}
use Rattle.site.proofs.site.Site.publish.Goals as goal

pub publish_at-requires-clause-held : goal.publish_at-requires-clause-held
publish_at-requires-clause-held g c =
    holds_there {D = g.row.D.Denot} {N = g.row.N.Denot} g.D.Disk.view g.D.Disk.tells g.N.Nonces.nonce c.args.pass.now c.args.ticket c.in-Some.shelf c.requires.held
    (found_at {D = g.row.D.Denot} {N = g.row.N.Denot} c.args.self.now c.args.pass.now (target_of c.args.ticket.target) c.in-Some.shelf c.caller.result c.place_for.result c.requires.own c.caller.ensures c.place_for.ensures c.in-Some.is)

pub publish_at-requires-clause-segment : goal.publish_at-requires-clause-segment
publish_at-requires-clause-segment g c =
    c.requires.segment c.in-Some.shelf
    (found_at {D = g.row.D.Denot} {N = g.row.N.Denot} c.args.self.now c.args.pass.now (target_of c.args.ticket.target) c.in-Some.shelf c.caller.result c.place_for.result c.requires.own c.caller.ensures c.place_for.ensures c.in-Some.is)

pub returns-clause-published : goal.returns-clause-published
returns-clause-published g c = (
  c.in-Some.shelf,
  found_at {D = g.row.D.Denot} {N = g.row.N.Denot} c.args.self.now c.args.pass.now (target_of c.args.ticket.target) c.in-Some.shelf c.caller.result c.place_for.result c.requires.own c.caller.ensures c.place_for.ensures c.in-Some.is,
  c.publish_at.ensures.published,
)
