use Rattle.std.proofs.Common.{◌≡◌, ◌∙◌, ◌∷◌, [], ◌++◌, ◌-◌, ◌<◌, ◌≤◌, ◌==◌, ap, sym, subst, ℕ, List, length, length-append, take, drop, slice_get, filter, not, arith, rules}
use Rattle.std.proofs.lemmas.Fn.{filter_same}
use Rattle.replay_spec.specs.Eviction.{least, least_used}
use Rattle.book_visits.specs.declared.goes.PageUse.{PageUse}
use Rattle.book_visits.specs.Uses.{read_use, read_uses}
use Rattle.book_visits.proofs.Picked.{headed, others, picked}
use Rattle.book_visits.proofs.goes.least_used.Goals as goal

pub loop-left-preserved : goal.loop-left-preserved
loop-left-preserved c =
    let count = c.args.count in
    let all = least_used count (read_uses c.args.uses.items) in
    let us = c.loop-left.left.items in
    let pages = c.loop-left.pages.items in
    let v = c.least-page.result in
    let first = c.in-Some.first.now in
    let head : us ≡ first ∷ drop 1 us = headed us first (c.in-Some.ensures.value ∙ ap (λ (xs : List PageUse). slice_get xs 0) c.deref.ensures.value) in
    let rest : take (length c.deref-in-loop-left.result.now - 1) (drop 1 c.deref-in-loop-left.result.now) ≡ drop 1 us =
    ap (λ (xs : List PageUse). take (length xs - 1) (drop 1 xs)) c.deref-in-loop-left.ensures.value ∙ others us in
    let is : read_use v ≡ least (read_use first) (read_uses (drop 1 us)) = c.least-page.ensures ∙ ap (λ (xs : List PageUse). least (read_use first) (read_uses xs)) rest in
    let kept : c.retain.new.self.items ≡ filter (λ (o : PageUse). not (o.page == v.page)) us =
    filter_same _ (λ (o : PageUse). not (o.page == v.page)) _ (λ x b q h. (search rules, search rules)) _ _ c.retain.ensures.filtered in
    let left : c.retain.new.self.items ≡ filter (λ (o : PageUse). not (o.page == v.page)) (first ∷ drop 1 us) = kept ∙ ap (filter (λ (o : PageUse). not (o.page == v.page))) head in
    let before : pages ++ least_used (count - length pages) (read_uses (first ∷ drop 1 us)) ≡ all =
    subst (λ (xs : List PageUse). pages ++ least_used (count - length pages) (read_uses xs) ≡ all) head c.loop-left.invariant.all in
    let more : length pages < count = omega (arith, c.len.ensures, c.loop-left-test.true) in
    let pushed : c.push.new.self.items ≡ pages ++ v.page ∷ [] = c.in_ok-push.ensures.items in
    record {
      few = subst (λ (ps : List ℕ). length ps ≤ count) (sym pushed) (omega (arith, length-append pages (v.page ∷ []), more));
      all = subst (λ (ps : List ℕ). ps ++ least_used (count - length ps) (read_uses c.retain.new.self.items) ≡ all) (sym pushed)
          (picked count first (drop 1 us) c.retain.new.self.items v pages all is left more before);
    }
