use Rattle.std.proofs.Common.{◌∙◌, ap, map, List}
use Rattle.journal_records.specs.ReplaySpec.Marks.{uses_of, evictions_of}
use Rattle.instance_book.specs.declared.numbered.Numbered.{Numbered}
use Rattle.instance_book.specs.declared.page.KeptPage.{KeptPage}
use Rattle.instance_book.specs.Views.{page_of, mark_of, instance_with}
use Rattle.instance_book.specs.Places.{shown_of}
use Rattle.instance_book.proofs.instance.KeptInstance.clone_with_room.Goals as goal

pub returns-clause-instance : goal.returns-clause-instance
returns-clause-instance c scripts n =
    let copy = c.in_ok-copy.copy in
    ap (λ (ps : List (Numbered KeptPage)). record (instance_with scripts n copy) { used = uses_of (map mark_of ps); evicted = evictions_of (map mark_of ps); pages = map page_of ps })
    c.in_ok-make_room.ensures.things
    ∙ c.in_ok-copy.ensures.instance scripts n

pub returns-clause-pages : goal.returns-clause-pages
returns-clause-pages c = record {
  pages = ap (map page_of) c.in_ok-make_room.ensures.things ∙ c.in_ok-copy.ensures.pages.pages;
  shown = ap (map shown_of) c.in_ok-make_room.ensures.things ∙ c.in_ok-copy.ensures.pages.shown;
  marks = ap (map mark_of) c.in_ok-make_room.ensures.things ∙ c.in_ok-copy.ensures.pages.marks;
}
