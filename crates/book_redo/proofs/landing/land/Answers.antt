use Rattle.std.proofs.Common.{◌∙◌, ◌≤◌, ◌^◌, ℕ, [], ap, sym, subst}
use Rattle.replay_spec.specs.Book.{Book}
use Rattle.instance_book.specs.Views.{no_journal}
use Rattle.book_redo.specs.Redo.{counted_to}
use Rattle.book_redo.proofs.landing.land.Goals as goal

pub returns-clause-book : goal.returns-clause-book
returns-clause-book c library beside =
    c.pass_over.ensures.book library beside ∙ ap (λ (b : Book). counted_to c.args.number b) (c.change.ensures.book library beside)

pub returns-clause-placed : goal.returns-clause-placed
returns-clause-placed c all placed has = c.pass_over.ensures.placed all (c.change.ensures.placed all placed has)

pub returns-clause-states : goal.returns-clause-states
returns-clause-states c source all there has = c.pass_over.ensures.states source all (c.change.ensures.states source all there has)

pub returns-clause-low : goal.returns-clause-low
returns-clause-low c below =
    c.pass_over.ensures.low (subst (λ (n : ℕ). n ≤ 2 ^ 62) (sym (ap (λ (b : Book). b.logged) (c.change.ensures.book (record { all = []; setup = [] }) no_journal))) below)
