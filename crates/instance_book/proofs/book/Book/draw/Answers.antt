use Rattle.std.proofs.Common.{◌≡◌, ◌∙◌, ap, subst, ℕ, ◌<◌, ◌+◌, List, ◌++◌, ◌∷◌, [], arith, Contains, inl, inr}
use Rattle.std.proofs.lemmas.List.Elements.{Contains-push_cases}
use Rattle.instance_book.proofs.Lists.{done_if}
use Rattle.instance_book.proofs.book.Book.draw.Goals as goal

pub invariant_of-self : goal.invariant_of-self
invariant_of-self c = record {
  ticks = c.args.self.now.ticks;
  numbers = c.args.self.now.numbers;
  few = c.args.self.now.few;
  below = λ n h. c.args.self.now.below n (subst (λ (ms : List ℕ). Contains ms n) c.try_reserve.ensures.items h);
}

one_more : (out : List ℕ) (drawn : ℕ) → ((n : ℕ) → Contains out n → n < drawn) → (n : ℕ) → Contains (out ++ drawn ∷ []) n → n < drawn + 1
one_more out drawn below n h = elim (Contains-push_cases out drawn n h) [ inl old ↦ omega (arith, below n old) | inr same ↦ omega (arith, same) ]

pub invariant_of-self-2 : goal.invariant_of-self-2
invariant_of-self-2 c =
    let went = c.push.ensures.succeeds (omega (arith, c.in_ok-try_reserve.ensures.ok)) in
    let items : c.push.new.self.items ≡ c.args.self.now.out.items ++ c.args.self.now.drawn ∷ [] =
    c.push.ensures.items ∙ (done_if c.push.result _ _ went ∙ ap (λ (ms : List ℕ). ms ++ c.args.self.now.drawn ∷ []) c.try_reserve.ensures.items) in
    record {
      ticks = c.args.self.now.ticks;
      numbers = omega (arith, c.requires);
      few = c.args.self.now.few;
      below = λ n h. one_more c.args.self.now.out.items c.args.self.now.drawn c.args.self.now.below n (subst (λ (ms : List ℕ). Contains ms n) items h);
    }
