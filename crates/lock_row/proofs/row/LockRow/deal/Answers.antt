use Rattle.std.proofs.Common.{rules, arith, ◌≡◌, ◌++◌, ◌∷◌, [], ◌+◌, ◌-◌, length, length-append, slice_get, ap, sym, ◌∙◌, subst}
use Rattle.std.proofs.lemmas.List.{append-nil}
use Rattle.std.proofs.lemmas.Option.{slice_get_within}
use Rattle.shelf_lock.proofs.Closings.{prefix_at}
use Rattle.lock_row.specs.Rows.{IsNewPass}
use Rattle.lock_row.proofs.Lockings.{get_front}
use Rattle.lock_row.proofs.row.LockRow.deal.Goals as goal

pub overflow_add-self : goal.overflow_add-self
overflow_add-self g c = let few = c.self.invariant.1.1 in search (rules, arith, few)

pub invariant_of-self : goal.invariant_of-self
invariant_of-self g c =
    let i = c.self.invariant in
    let items : c.self.inside.spare.items ≡ c.pop.new.self.items ++ c.unwrap-pass.result ∷ [] = search rules in
    let len : length c.self.inside.spare.items ≡ length c.pop.new.self.items + 1 = ap length items ∙ omega (arith, length-append c.pop.new.self.items (c.unwrap-pass.result ∷ [])) in (
      i.0,
      (
        (λ k l e. let is = i.1.0 k l e in omega arith),
        (let few = i.1.1 in omega arith),
        (λ j p e.
            let within = slice_get_within c.pop.new.self.items j p e in
            let s = i.1.2 j p (ap (λ l. slice_get l j) items ∙ get_front c.pop.new.self.items (c.unwrap-pass.result ∷ []) j p e) in
            let number : c.self.inside.dealt + (length c.self.inside.spare.items - 1 - j) ≡ c.self.inside.dealt + 1 + (length c.pop.new.self.items - 1 - j) = omega arith in
            (s.0, subst (λ n. IsNewPass n p) number s.1)),
        (let number : c.self.inside.dealt + length c.self.inside.spare.items ≡ c.self.inside.dealt + 1 + length c.pop.new.self.items = omega arith in
            (i.1.3.0, subst (λ n. IsNewPass n c.self.inside.own) number i.1.3.1)),
      ),
    )

pub returns-clause-own : goal.returns-clause-own
returns-clause-own g c =
    let items : c.self.inside.spare.items ≡ c.pop.new.self.items ++ c.unwrap-pass.result ∷ [] = search rules in
    let at = prefix_at c.pop.new.self.items c.self.inside.spare.items c.unwrap-pass.result ([], append-nil _ ∙ sym items) in
    (c.self.invariant.1.2 (length c.pop.new.self.items) c.unwrap-pass.result at).0

pub returns-clause-new : goal.returns-clause-new
returns-clause-new g c =
    let items : c.self.inside.spare.items ≡ c.pop.new.self.items ++ c.unwrap-pass.result ∷ [] = search rules in
    let len : length c.self.inside.spare.items ≡ length c.pop.new.self.items + 1 = ap length items ∙ omega (arith, length-append c.pop.new.self.items (c.unwrap-pass.result ∷ [])) in
    let at = prefix_at c.pop.new.self.items c.self.inside.spare.items c.unwrap-pass.result ([], append-nil _ ∙ sym items) in
    let seats = ap (λ r. r.seats) c.self.view_is in
    let number : c.self.inside.dealt + (length c.self.inside.spare.items - 1 - length c.pop.new.self.items) ≡ c.args.self.now.seats = omega arith in
    subst (λ n. IsNewPass n c.unwrap-pass.result) number (c.self.invariant.1.2 (length c.pop.new.self.items) c.unwrap-pass.result at).1
