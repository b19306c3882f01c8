use Rattle.std.proofs.Common.{◌∙◌, ◌∷◌, [], ap}
use Rattle.journal_records.specs.ReplaySpec.Book.{Page, Instance}
use Rattle.journal_records.specs.ReplaySpec.Marks.{Mark, uses_of, evictions_of}
use Rattle.instance_book.specs.Views.{page_of, mark_of, instance_with}
use Rattle.instance_book.proofs.change.Opening.try_clone.Goals as goal

pub returns-clause-begun : goal.returns-clause-begun
returns-clause-begun c scripts =
    let copy = c.in_ok-instance.instance in
    let first = page_of c.args.self.now.page in
    let mark = mark_of c.args.self.now.page in
    let begins : Page → Mark → Instance = λ p m. record (instance_with scripts p.number copy) { used = uses_of (m ∷ []); evicted = evictions_of (m ∷ []); pages = p ∷ [] } in
    ap (λ (p : Page). begins p (mark_of c.in_ok-page.page)) c.in_ok-page.ensures.page
    ∙ (ap (begins first) c.in_ok-page.ensures.mark
    ∙ ap (λ (i : Instance). record i { used = uses_of (mark ∷ []); evicted = evictions_of (mark ∷ []); pages = first ∷ [] }) (c.in_ok-instance.ensures.instance scripts first.number))
