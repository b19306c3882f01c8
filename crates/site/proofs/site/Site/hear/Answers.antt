use Rattle.site.proofs.Endings.{heard_all, hears_own, hears_of}
use Rattle.site.proofs.site.Site.hear.Goals as goal

pub returns-clause-heard : goal.returns-clause-heard
returns-clause-heard g c = heard_all {D = g.row.D.Denot} {N = g.row.N.Denot} c.args.pass.now c.args.note c.hear.new.pass c.hear.ensures.heard (λ n a b h. hears_of {D = g.row.D.Denot} {N = g.row.N.Denot} n a b h.0 h.1 h.2 h.3)

pub returns-clause-own : goal.returns-clause-own
returns-clause-own g c =
    hears_own {D = g.row.D.Denot} {N = g.row.N.Denot} c.args.self.now c.args.pass.now c.args.note c.hear.new.pass c.requires.own c.hear.ensures.own c.requires.note
    (heard_all {D = g.row.D.Denot} {N = g.row.N.Denot} c.args.pass.now c.args.note c.hear.new.pass c.hear.ensures.heard (λ n a b h. hears_of {D = g.row.D.Denot} {N = g.row.N.Denot} n a b h.0 h.1 h.2 h.3))
