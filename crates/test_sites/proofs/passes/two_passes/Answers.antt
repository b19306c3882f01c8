use Rattle.std.proofs.Common.{◌++◌, ◌∷◌, [], ap, sym, ◌∙◌}
use Rattle.std.proofs.lemmas.List.{append-nil}
use Rattle.test_sites.proofs.Popped.{own_in}
use Rattle.test_sites.proofs.passes.two_passes.Goals as goal

pub returns-clause-own : goal.returns-clause-own
returns-clause-own c =
    let all = c.in_ok-passes.ensures.passes in
    let last = c.in-Some.ensures.items in
    let first = c.in-Some-pop.ensures.items in (
      own_in _ c.in_ok-passes.passes.items c.pop-2.new.self.items c.in-Some-pop.first all (c.in-Some.second ∷ [], ap (λ l. l ++ c.in-Some.second ∷ []) (sym first) ∙ sym last),
      own_in _ c.in_ok-passes.passes.items c.pop.new.self.items c.in-Some.second all ([], append-nil _ ∙ sym last),
    )
