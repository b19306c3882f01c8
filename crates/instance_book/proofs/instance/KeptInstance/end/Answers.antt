use Rattle.std.proofs.Common.{◌∙◌, ap, subst, List}
use Rattle.journal_records.specs.ReplaySpec.Book.{Page, Use, Eviction, Instance}
use Rattle.journal_records.specs.ReplaySpec.Change.{used_by}
use Rattle.journal_records.specs.ReplaySpec.Marks.{use_page}
use Rattle.instance_book.specs.declared.in_order.InOrder.{InOrder}
use Rattle.instance_book.specs.declared.page.KeptPage.{KeptPage}
use Rattle.instance_book.specs.Views.{pages_of, used_of, evicted_of, instance_with}
use Rattle.instance_book.specs.Places.{ChangesMarks}
use Rattle.instance_book.specs.Changes.{left_with}
use Rattle.instance_book.proofs.Marking.{answered_uses, answered_evictions}
use Rattle.instance_book.proofs.instance.KeptInstance.end.Goals as goal

pub returns-clause-instance : goal.returns-clause-instance
returns-clause-instance c scripts n =
    let p = c.args.page in
    let m = c.args.number in
    let old = c.args.self.now.pages in
    let new = c.answer.new.self in
    let made : Instance = left_with c.args.after (instance_with scripts n c.args.self.now) in
    let changed : ChangesMarks (use_page p m) old new = subst (λ (ps : InOrder KeptPage). ChangesMarks (use_page p m) ps new) c.leave.ensures.pages c.answer.ensures in
    ap (λ (i : Instance). record i { used = used_of new; evicted = evicted_of new; pages = pages_of new }) (c.leave.ensures.instance scripts n)
    ∙ (ap (λ (us : List Use). record made { used = us; evicted = evicted_of new; pages = pages_of new }) (answered_uses p m old new changed)
    ∙ (ap (λ (es : List Eviction). record made { used = used_by p m (used_of old); evicted = es; pages = pages_of new }) (answered_evictions p m old new changed)
    ∙ ap (λ (ps : List Page). record made { used = used_by p m (used_of old); pages = ps }) changed.pages))

pub returns-clause-pages : goal.returns-clause-pages
returns-clause-pages c =
    let changed : ChangesMarks (use_page c.args.page c.args.number) c.args.self.now.pages c.answer.new.self =
    subst (λ (ps : InOrder KeptPage). ChangesMarks (use_page c.args.page c.args.number) ps c.answer.new.self) c.leave.ensures.pages c.answer.ensures in
    record { pages = changed.pages; shown = changed.shown }
