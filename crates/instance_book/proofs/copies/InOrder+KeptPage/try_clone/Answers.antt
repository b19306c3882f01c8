use Rattle.std.proofs.Common.{◌≡◌, ◌∙◌, ◌++◌, ◌∷◌, [], ◌<◌, ap, map, subst, length, get_or, ◌≤◌, List}
use Rattle.journal_records.specs.ReplaySpec.Book.{Page}
use Rattle.kept_states.specs.Kept.{Kept}
use Rattle.instance_book.specs.Views.{page_of, mark_of}
use Rattle.instance_book.specs.Places.{kept_at, shown_of}
use Rattle.instance_book.specs.declared.numbered.Numbered.{Numbered}
use Rattle.instance_book.specs.declared.page.KeptPage.{KeptPage}
use Rattle.instance_book.proofs.Lists.{taken}
use Rattle.instance_book.proofs.Seen.{rises_with_pages, copied_more}
use Rattle.instance_book.proofs.copies.InOrder+KeptPage.try_clone.Goals as goal

pub invariant_of-result : goal.invariant_of-result
invariant_of-result c =
    let xs = c.args.self.now.things.items in
    let end : length xs ≤ c.loop-page.page-index = subst (λ (ps : List (Numbered KeptPage)). length ps ≤ c.loop-page.page-index) c.deref-page-items.ensures.value c.loop-page-test.false in
    let same : map page_of c.loop-page.things.items ≡ map page_of xs = c.loop-page.invariant.pages ∙ ap (map page_of) (taken xs c.loop-page.page-index end) in
    record { rising = rises_with_pages c.loop-page.things.items xs same c.args.self.now.rising }

pub loop-page-preserved : goal.loop-page-preserved
loop-page-preserved c =
    let xs = c.args.self.now.things.items in
    let ys = c.loop-page.things.items in
    let i = c.loop-page.page-index in
    let x = c.page-item.result in
    let y = c.in_ok-try_clone.field-0 in
    let within : i < length xs = subst (λ (is : List (Numbered KeptPage)). i < length is) c.deref-page-items.ensures.value c.loop-page-test.true in
    let here : x ≡ get_or xs i x = c.page-item.is ∙ ap (λ (is : List (Numbered KeptPage)). get_or is i x) c.deref-page-items.ensures.value in
    let items : c.push.new.self.items ≡ ys ++ y ∷ [] = c.in_ok-push.ensures.items in
    let both : shown_of y ≡ shown_of x = ap (λ (p : Page). (p, kept_at y)) c.in_ok-try_clone.ensures.page ∙ ap (λ (d : Kept). (page_of x, d)) c.in_ok-try_clone.ensures.state in
    record {
      pages = ap (map page_of) items ∙ copied_more page_of xs ys i x y c.loop-page.invariant.pages within here c.in_ok-try_clone.ensures.page;
      shown = ap (map shown_of) items ∙ copied_more shown_of xs ys i x y c.loop-page.invariant.shown within here both;
      marks = ap (map mark_of) items ∙ copied_more mark_of xs ys i x y c.loop-page.invariant.marks within here c.in_ok-try_clone.ensures.mark;
    }

pub returns : goal.returns
returns c =
    let xs = c.args.self.now.things.items in
    let end : length xs ≤ c.loop-page.page-index = subst (λ (ps : List (Numbered KeptPage)). length ps ≤ c.loop-page.page-index) c.deref-page-items.ensures.value c.loop-page-test.false in
    record {
      pages = c.loop-page.invariant.pages ∙ ap (map page_of) (taken xs c.loop-page.page-index end);
      shown = c.loop-page.invariant.shown ∙ ap (map shown_of) (taken xs c.loop-page.page-index end);
      marks = c.loop-page.invariant.marks ∙ ap (map mark_of) (taken xs c.loop-page.page-index end);
    }
