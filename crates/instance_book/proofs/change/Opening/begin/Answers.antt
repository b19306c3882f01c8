use Rattle.std.proofs.Common.{◌≡◌, ◌∙◌, ◌∷◌, [], ap, List}
use Rattle.journal_records.specs.ReplaySpec.Book.{Page, Instance}
use Rattle.journal_records.specs.ReplaySpec.Change.{put_in_order, put_page}
use Rattle.journal_records.specs.ReplaySpec.Marks.{Mark, number_of, uses_of, evictions_of}
use Rattle.instance_book.specs.Views.{page_of, pages_of, mark_of, marks_of, instance_with}
use Rattle.instance_book.proofs.Marking.{none_marked}
use Rattle.instance_book.proofs.change.Opening.begin.Goals as goal

pub returns-clause-instance : goal.returns-clause-instance
returns-clause-instance c scripts =
    let o = c.args.self in
    let first = page_of o.page in
    let mark = mark_of o.page in
    let begins : List Mark → List Page → Instance = λ ms ps. record (instance_with scripts o.page.number o.instance) { used = uses_of ms; evicted = evictions_of ms; pages = ps } in
    let marks : marks_of c.put_page.new.self ≡ mark ∷ [] = c.put_page.ensures.mark ∙ ap (put_in_order number_of mark) (none_marked o.instance.pages.things.items c.requires.empty) in
    let pages : pages_of c.put_page.new.self ≡ first ∷ [] = c.put_page.ensures.pages ∙ ap (put_page first) c.requires.empty in
    ap (λ (ms : List Mark). begins ms (pages_of c.put_page.new.self)) marks ∙ ap (begins (mark ∷ [])) pages
