use Rattle.std.proofs.Common.{ap, ◌∙◌, arith}
use Rattle.site.specs.Entries.{entries_of}
use Rattle.site.proofs.Begins.{same_shelves}
use Rattle.site.proofs.begin.lock_all.Goals as goal

pub new-requires-clause-fresh : goal.new-requires-clause-fresh
new-requires-clause-fresh g c k x e = let f = c.requires.fresh k x e in (f.0, f.1, omega arith)

pub returns-in-Err-clause-back : goal.returns-in-Err-clause-back
returns-in-Err-clause-back g c =
    same_shelves {D = g.row.D.Denot} {N = g.row.N.Denot} c.args.shelves.items c.in-Err.shelves.items c.in-Err.ensures.back
    (λ k x y x_is r. r.0.is.untouched (ap entries_of r.2) ∙ (ap (λ o. o.shelf.value) r.1 ∙ (c.requires.fresh k x x_is).2))
