use Rattle.std.proofs.Common.{◌≡◌, ◌∙◌, ap}
use Rattle.journal_records.specs.ReplaySpec.Book.{Page}
use Rattle.journal_records.specs.ReplaySpec.Change.{put_in_order, put_page}
use Rattle.journal_records.specs.ReplaySpec.Marks.{Mark, number_of, uses_of, evictions_of, go_all}
use Rattle.kept_states.specs.Kept.{Kept}
use Rattle.std.proofs.Common.{List}
use Rattle.instance_book.specs.Views.{page_of, mark_of, marks_of}
use Rattle.instance_book.specs.Places.{shown_of}
use Rattle.instance_book.specs.Uses.{use_if}
use Rattle.instance_book.proofs.Marking.{marks_rise, absent_mark, shown_uses, shown_evictions}
use Rattle.instance_book.proofs.pages.InOrder+KeptPage.show.Goals as goal

pub put_page-requires : goal.put_page-requires
put_page-requires c = c.evict_all.ensures.room (c.answer_if.ensures.room c.requires.room)

pub returns : goal.returns
returns c =
    let p = c.args.page in
    let gone = c.args.gone.now in
    let old = c.args.self.now in
    let ms = marks_of old in
    let rising = marks_rise old.things.items old.rising in
    let absent = absent_mark p.number old.things.items c.requires.next.unused in
    let marks : marks_of c.put_page.new.self ≡ put_in_order number_of (mark_of p) (go_all p.number gone (use_if p.item.parent p.number ms)) =
    c.put_page.ensures.mark
    ∙ (ap (put_in_order number_of (mark_of p)) c.evict_all.ensures.marks
    ∙ ap (λ (xs : List Mark). put_in_order number_of (mark_of p) (go_all p.number gone xs)) c.answer_if.ensures.marks) in
    record {
      pages = c.put_page.ensures.pages ∙ ap (put_page (page_of p)) (c.evict_all.ensures.pages ∙ c.answer_if.ensures.pages);
      shown = c.put_page.ensures.shown ∙ ap (put_in_order (λ (x : Page × Kept). x.0.number) (shown_of p)) (c.evict_all.ensures.shown ∙ c.answer_if.ensures.shown);
      used = ap uses_of marks ∙ shown_uses ms rising (mark_of p) p.item.parent gone absent c.requires.next.stays c.requires.next.goes;
      evicted = ap evictions_of marks ∙ shown_evictions ms rising (mark_of p) p.item.parent gone absent c.requires.next.stays c.requires.next.goes;
    }
