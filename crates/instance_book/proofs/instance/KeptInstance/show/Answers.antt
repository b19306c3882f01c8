use Rattle.std.proofs.Common.{◌≡◌, ◌∙◌, ap, sym, subst, List}
use Rattle.journal_records.specs.ReplaySpec.Book.{Page, Use, Eviction, Instance}
use Rattle.journal_records.specs.ReplaySpec.Change.{put_in_order, put_page, put_use, used_in, unless_gone, evict}
use Rattle.journal_records.specs.ReplaySpec.Marks.{use_of}
use Rattle.kept_states.specs.Kept.{Kept}
use Rattle.instance_book.specs.declared.in_order.InOrder.{InOrder}
use Rattle.instance_book.specs.declared.page.KeptPage.{KeptPage}
use Rattle.instance_book.specs.Views.{page_of, pages_of, mark_of, used_of, evicted_of, instance_with}
use Rattle.instance_book.specs.Places.{CanTake, ShowsPage, shown_of, shown_in}
use Rattle.instance_book.specs.Changes.{left_with, revoked_with}
use Rattle.instance_book.proofs.instance.KeptInstance.show.Goals as goal

pub show-requires : goal.show-requires
show-requires c = subst (λ (ps : InOrder KeptPage). CanTake c.args.show.page c.args.gone.now ps) (sym (c.revoke.ensures.pages ∙ c.leave.ensures.pages)) c.requires

pub returns-clause-instance : goal.returns-clause-instance
returns-clause-instance c scripts n =
    let s = c.args.show in
    let gone = c.args.gone.now in
    let old = c.args.self.now.pages in
    let new = c.show.new.self in
    let made : Instance = revoked_with s.revoked (left_with s.after (instance_with scripts n c.args.self.now)) in
    let before : instance_with scripts n c.revoke.new.self ≡ made = c.revoke.ensures.instance scripts n ∙ ap (revoked_with s.revoked) (c.leave.ensures.instance scripts n) in
    let shows : ShowsPage s.page gone old new =
    subst (λ (ps : InOrder KeptPage). ShowsPage s.page gone ps new) (c.revoke.ensures.pages ∙ c.leave.ensures.pages) c.show.ensures in
    ap (λ (i : Instance). record i { used = used_of new; evicted = evicted_of new; pages = pages_of new }) before
    ∙ (ap (λ (us : List Use). record made { used = us; evicted = evicted_of new; pages = pages_of new }) shows.used
    ∙ (ap (λ (es : List Eviction). record made {
      used = put_use (use_of (mark_of s.page)) (unless_gone gone (used_in s.page.item.parent s.page.number (used_of old)));
      evicted = es;
      pages = pages_of new;
    }) shows.evicted
    ∙ ap (λ (ps : List Page). record made {
      used = put_use (use_of (mark_of s.page)) (unless_gone gone (used_in s.page.item.parent s.page.number (used_of old)));
      evicted = evict s.page.number gone (evicted_of old);
      pages = ps;
    }) shows.pages))

pub returns-clause-pages : goal.returns-clause-pages
returns-clause-pages c =
    c.show.ensures.pages ∙ ap (λ (ps : InOrder KeptPage). put_page (page_of c.args.show.page) (pages_of ps)) (c.revoke.ensures.pages ∙ c.leave.ensures.pages)

pub returns-clause-shown : goal.returns-clause-shown
returns-clause-shown c =
    c.show.ensures.shown
    ∙ ap (λ (ps : InOrder KeptPage). put_in_order (λ (x : Page × Kept). x.0.number) (shown_of c.args.show.page) (shown_in ps)) (c.revoke.ensures.pages ∙ c.leave.ensures.pages)
