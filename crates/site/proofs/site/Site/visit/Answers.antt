use Rattle.std.proofs.Common.{inl}
use Rattle.script_value.specs.Views.{meaning}
use Rattle.page_names.specs.Views.{target_of}
use Rattle.site.proofs.Seats.{takes_holds}
use Rattle.site.proofs.site.Site.visit.Goals as goal

pub run-segment-requires-clause-held : goal.run-segment-requires-clause-held
run-segment-requires-clause-held g c =
    takes_holds {D = g.row.D.Denot} {N = g.row.N.Denot} g.D.Disk.view g.D.Disk.tells g.N.Nonces.nonce c.args.pass.now c.take.new.pass (target_of c.args.target.now) (meaning c.args.answer) c.in-Ok.ticket c.in-Ok.ensures.took

pub publish-requires-clause-held : goal.publish-requires-clause-held
publish-requires-clause-held g c =
    takes_holds {D = g.row.D.Denot} {N = g.row.N.Denot} g.D.Disk.view g.D.Disk.tells g.N.Nonces.nonce c.args.pass.now c.take.new.pass (target_of c.args.target.now) (meaning c.args.answer) c.in-Ok.ticket c.in-Ok.ensures.took

pub publish-requires-clause-segment : goal.publish-requires-clause-segment
publish-requires-clause-segment g c = c.run-segment.ensures

pub returns-clause-visited : goal.returns-clause-visited
returns-clause-visited g c = inl (c.in-Ok.ticket, c.take.new.pass, c.in-Ok.ensures.took, c.publish.ensures.published)
