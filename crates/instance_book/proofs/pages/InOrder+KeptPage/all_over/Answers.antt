use Rattle.std.proofs.Common.{◌≡◌, ◌∙◌, ◌<◌, ap, sym, subst, List, length, get_or, true, false, rules}
use Rattle.journal_records.specs.ReplaySpec.Book.{is_over}
use Rattle.instance_book.specs.declared.numbered.Numbered.{Numbered}
use Rattle.instance_book.specs.declared.page.KeptPage.{KeptPage}
use Rattle.instance_book.specs.Views.{page_of, evicted_of}
use Rattle.instance_book.proofs.Marking.{over_there, all_but, all_behind}
use Rattle.instance_book.proofs.pages.InOrder+KeptPage.all_over.Goals as goal

pub returns-then-not-is_over : goal.returns-then-not-is_over
returns-then-not-is_over c =
    let xs = c.args.self.now.things.items in
    let k = c.loop-page.page-index in
    let x = c.page-item.result in
    let within : k < length xs = subst (λ (is : List (Numbered KeptPage)). k < length is) c.deref-page-items.ensures.value c.loop-page-test.true in
    let here : x ≡ get_or xs k x = c.page-item.is ∙ ap (λ (is : List (Numbered KeptPage)). get_or is k x) c.deref-page-items.ensures.value in
    let no : c.is_over.result ≡ false = search rules in
    let over : is_over c.args.tick (evicted_of c.args.self.now) (page_of x) ≡ false = over_there c.args.tick xs k x c.args.self.now.rising within here ∙ (sym c.is_over.ensures ∙ no) in
    sym (c.loop-page.invariant ∙ all_but (is_over c.args.tick (evicted_of c.args.self.now)) xs k x within here over)

pub loop-page-preserved : goal.loop-page-preserved
loop-page-preserved c =
    let xs = c.args.self.now.things.items in
    let k = c.loop-page.page-index in
    let x = c.page-item.result in
    let within : k < length xs = subst (λ (is : List (Numbered KeptPage)). k < length is) c.deref-page-items.ensures.value c.loop-page-test.true in
    let here : x ≡ get_or xs k x = c.page-item.is ∙ ap (λ (is : List (Numbered KeptPage)). get_or is k x) c.deref-page-items.ensures.value in
    let yes : c.is_over.result ≡ true = search rules in
    let over : is_over c.args.tick (evicted_of c.args.self.now) (page_of x) ≡ true = over_there c.args.tick xs k x c.args.self.now.rising within here ∙ (sym c.is_over.ensures ∙ yes) in
    c.loop-page.invariant ∙ all_behind (is_over c.args.tick (evicted_of c.args.self.now)) xs k x within here over
