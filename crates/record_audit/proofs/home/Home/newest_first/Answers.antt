use Rattle.std.proofs.Common.{◌≡◌, ◌∙◌, ap, sym, subst, ◌+◌, ◌-◌, List, [], ◌∷◌, ◌++◌, map, option_map, Option, Some, arith, Bor}
use Rattle.std.proofs.lemmas.List.{map-append}
use Rattle.segments.specs.Views.{answer_of}
use Rattle.replay_spec.specs.Tape as spec
use Rattle.replay_spec.specs.Book.{Page, chain}
use Rattle.replay_spec.specs.Next.{answered}
use Rattle.book_redo.specs.InstanceBook.declared.numbered.Numbered.{Numbered}
use Rattle.book_redo.specs.InstanceBook.declared.page.KeptPage.{KeptPage}
use Rattle.book_redo.specs.InstanceBook.Views.{page_of, pages_of}
use Rattle.record_audit.specs.Runs.{home_of}
use Rattle.record_audit.proofs.Chains.{IsLeft, left_step, left_none}
use Rattle.record_audit.proofs.home.Home.newest_first.Goals as goal

abbrev shown_if : Option (Bor (Numbered KeptPage)) → Option Page
shown_if o = option_map (λ p. page_of p.now) o

pub loop-preserved : goal.loop-preserved
loop-preserved c =
    let f = answered (home_of c.args.self.now) in
    let ps = pages_of c.args.pages.now in
    let whole = map f (chain ps (page_of c.args.page.now)) in
    let n = c.len-end.result - c.loop.counter in
    let m = c.len-end.result - (c.loop.counter + 1) in
    let p = page_of c.in-Some.shown.now in
    let before = map answer_of c.loop.past.items in
    let left : IsLeft f ps whole n (Some p) before =
    subst (λ (o : Option (Bor (Numbered KeptPage))). IsLeft f ps whole n (shown_if o) before) c.in-Some.is c.loop.invariant in
    let walked : map answer_of c.push.new.self.items ≡ before ++ f p ∷ [] =
    ap (map answer_of) c.in_ok-push.ensures.items
    ∙ (map-append answer_of c.loop.past.items (c.in_ok-ran.field-0 ∷ []) ∙ ap (λ (a : spec.Answer). before ++ a ∷ []) c.in_ok-ran.ensures) in
    let next = shown_if c.parent_of-next.result in
    subst (λ (xs : List spec.Answer). IsLeft f ps whole m next xs) (sym walked)
    (left_step f ps whole n m p next before (omega (arith, c.loop-test.true)) (sym c.parent_of-next.ensures) left)

pub returns-in_default : goal.returns-in_default
returns-in_default c =
    let f = answered (home_of c.args.self.now) in
    let ps = pages_of c.args.pages.now in
    let whole = map f (chain ps (page_of c.args.page.now)) in
    let n = c.len-end.result - c.loop.counter in
    let before = map answer_of c.loop.past.items in
    left_none f ps whole n before
    (subst (λ (o : Option (Bor (Numbered KeptPage))). IsLeft f ps whole n (shown_if o) before) c.in_default.is c.loop.invariant)
