use Rattle.std.proofs.Common.{◌∙◌, ap, max}
use Rattle.replay_spec.specs.Book as spec
use Rattle.book_visits.proofs.installing.install.Goals as goal

pub returns-clause-book : goal.returns-clause-book
returns-clause-book c library beside =
    c.count_to.ensures.book library beside ∙ ap (λ (x : spec.Book). record x { logged = max x.logged c.args.prepared.logged }) (c.change.ensures.book library beside)

pub returns-clause-placed : goal.returns-clause-placed
returns-clause-placed c all placed kept = c.count_to.ensures.placed all (c.change.ensures.placed all placed kept)

pub returns-clause-states : goal.returns-clause-states
returns-clause-states c source all states kept = c.count_to.ensures.states source all (c.change.ensures.states source all states kept)
