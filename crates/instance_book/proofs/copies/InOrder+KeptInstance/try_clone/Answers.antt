use Rattle.std.proofs.Common.{◌≡◌, ◌∙◌, ◌++◌, ◌∷◌, ◌<◌, ap, map, subst, length, get_or, ◌≤◌, List, [], refl}
use Rattle.instance_book.specs.Views.{instance_of}
use Rattle.instance_book.specs.declared.numbered.Numbered.{Numbered}
use Rattle.instance_book.specs.declared.instance.KeptInstance.{KeptInstance}
use Rattle.instance_book.proofs.Lists.{taken}
use Rattle.instance_book.proofs.Seen.{rises_with_instances, copied_more, all_alike}
use Rattle.instance_book.proofs.States.{kept_of, kept_as, placed_as, same_kept}
use Rattle.instance_book.specs.Places.{IsPlaced, IsKept}
use Rattle.instance_book.proofs.copies.InOrder+KeptInstance.try_clone.Goals as goal

pub invariant_of-result : goal.invariant_of-result
invariant_of-result c =
    let xs = c.args.self.now.things.items in
    let end : length xs ≤ c.loop-instance.instance-index = subst (λ (is : List (Numbered KeptInstance)). length is ≤ c.loop-instance.instance-index) c.deref-instance-items.ensures.value c.loop-instance-test.false in
    let same : map (instance_of []) c.loop-instance.things.items ≡ map (instance_of []) xs = c.loop-instance.invariant.same [] ∙ ap (map (instance_of [])) (taken xs c.loop-instance.instance-index end) in
    record { rising = rises_with_instances c.loop-instance.things.items xs same c.args.self.now.rising }

pub loop-instance-preserved : goal.loop-instance-preserved
loop-instance-preserved c =
    let xs = c.args.self.now.things.items in
    let ys = c.loop-instance.things.items in
    let i = c.loop-instance.instance-index in
    let x = c.instance-item.result in
    let y : Numbered KeptInstance = record { number = x.number; item = c.in_ok-try_clone.field-0 } in
    let within : i < length xs = subst (λ (is : List (Numbered KeptInstance)). i < length is) c.deref-instance-items.ensures.value c.loop-instance-test.true in
    let here : x ≡ get_or xs i x = c.instance-item.is ∙ ap (λ (is : List (Numbered KeptInstance)). get_or is i x) c.deref-instance-items.ensures.value in
    let items : c.push.new.self.items ≡ ys ++ y ∷ [] = c.in_ok-push.ensures.items in
    record {
      same = λ scripts. ap (map (instance_of scripts)) items ∙ copied_more (instance_of scripts) xs ys i x y (c.loop-instance.invariant.same scripts) within here (c.in_ok-try_clone.ensures.instance scripts x.number);
      kept = ap (map kept_of) items ∙ copied_more kept_of xs ys i x y c.loop-instance.invariant.kept within here (same_kept y x refl c.in_ok-try_clone.ensures.script c.in_ok-try_clone.ensures.pages.pages c.in_ok-try_clone.ensures.pages.shown);
    }

pub returns-clause-states : goal.returns-clause-states
returns-clause-states c scripts shelf all =
    let xs = c.args.self.now.things.items in
    let end : length xs ≤ c.loop-instance.instance-index = subst (λ (is : List (Numbered KeptInstance)). length is ≤ c.loop-instance.instance-index) c.deref-instance-items.ensures.value c.loop-instance-test.false in
    let same : map kept_of c.loop-instance.things.items ≡ map kept_of xs = c.loop-instance.invariant.kept ∙ ap (map kept_of) (taken xs c.loop-instance.instance-index end) in
    all_alike (IsKept scripts shelf) kept_of (kept_as scripts shelf) c.loop-instance.things.items xs same all

pub returns-clause-placed : goal.returns-clause-placed
returns-clause-placed c scripts all =
    let xs = c.args.self.now.things.items in
    let end : length xs ≤ c.loop-instance.instance-index = subst (λ (is : List (Numbered KeptInstance)). length is ≤ c.loop-instance.instance-index) c.deref-instance-items.ensures.value c.loop-instance-test.false in
    let same : map kept_of c.loop-instance.things.items ≡ map kept_of xs = c.loop-instance.invariant.kept ∙ ap (map kept_of) (taken xs c.loop-instance.instance-index end) in
    all_alike (IsPlaced scripts) kept_of (placed_as scripts) c.loop-instance.things.items xs same all
