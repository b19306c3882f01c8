use Rattle.std.proofs.Common.{◌∷◌, ◌++◌, [], subst}
use Rattle.history_spec.specs.Histories.{IsLegal}
use Rattle.site.specs.Openings.{start_of, source_of, count_of}
use Rattle.site.proofs.closed_is_closed_over_threads.Goals as goal

pub returns : goal.returns
returns g c o disk nonces es stands own sound before between more leaving next name is leaves =
    let source = source_of {D = g.row.D.Denot} {N = g.row.N.Denot} g.N.Nonces.nonce o in
    let start = start_of {D = g.row.D.Denot} {N = g.row.N.Denot} g.D.Disk.view o in
    let opened = count_of {D = g.row.D.Denot} {N = g.row.N.Denot} g.D.Disk.view o.shelf.value in
    let now = (g.D.Disk.view disk).faults in
    let until = before ++ leaving ∷ between in
    let legal = (c.histories_go_on.ensures source opened now start (until ++ next ∷ [])).2 more (subst (IsLegal source opened now start) is (stands.ended.history own).legal) in
    c.closed_is_closed.ensures source opened now start before between leaving next name stands.ended.opened sound legal leaves
