use Rattle.page_journal.specs.Settled.{view_of, bodies_in}
use Rattle.page_journal.proofs.Holds.{settled_images}
use Rattle.journal_spec.proofs.Standings as laws
use Rattle.journal_spec.proofs.writes_stand_between.Goals as goal

pub returns : goal.returns
returns g c = λ texts shelf before after old mid new t settled k carries no_new time run.
    laws.written old.format (bodies_in g.D.Disk.view old) texts shelf before after (view_of g.D.Disk.view old) (view_of g.D.Disk.view mid) (view_of g.D.Disk.view new) t
    (g.met.D.Disk.only_now old.disk) (settled_images g.D.Disk.view old settled) k carries no_new time run
