use Rattle.std.proofs.Common.{◌≡◌, ◌∙◌, ap, sym, subst, List, [], map, filter, rules}
use Rattle.std.specs.List.{AllByRecursion}
use Rattle.std.proofs.lemmas.Fn.{filter_same}
use Rattle.journal_records.specs.ReplaySpec.Book.{is_live}
use Rattle.instance_book.specs.declared.numbered.Numbered.{Numbered}
use Rattle.instance_book.specs.declared.instance.KeptInstance.{KeptInstance}
use Rattle.instance_book.specs.Orders.{Rises, numbers_of}
use Rattle.instance_book.specs.Views.{instance_of}
use Rattle.instance_book.specs.Places.{IsPlaced, IsKept}
use Rattle.instance_book.proofs.Lists.{rises_kept}
use Rattle.instance_book.proofs.Seen.{seen_kept, all_kept}
use Rattle.instance_book.proofs.instances.InOrder+KeptInstance.keep_live.Goals as goal

pub invariant_of-self : goal.invariant_of-self
invariant_of-self c =
    let kept : c.retain.new.self.items ≡ filter (λ i. is_live c.args.tick (instance_of [] i)) c.args.self.now.things.items = filter_same _ (λ i. is_live c.args.tick (instance_of [] i)) _ (λ x b q h. (search rules, search rules)) _ _ c.retain.ensures.filtered in
    record { rising = subst (λ (xs : List (Numbered KeptInstance)). Rises (numbers_of xs)) (sym kept) (rises_kept (λ i. is_live c.args.tick (instance_of [] i)) c.args.self.now.things.items c.args.self.now.rising) }

pub returns-clause-instances : goal.returns-clause-instances
returns-clause-instances c scripts =
    let kept : c.retain.new.self.items ≡ filter (λ i. is_live c.args.tick (instance_of scripts i)) c.args.self.now.things.items = filter_same _ (λ i. is_live c.args.tick (instance_of scripts i)) _ (λ x b q h. (search rules, search rules)) _ _ c.retain.ensures.filtered in
    ap (map (instance_of scripts)) kept ∙ seen_kept scripts (is_live c.args.tick) c.args.self.now.things.items

pub returns-clause-states : goal.returns-clause-states
returns-clause-states c scripts shelf all =
    let kept : c.retain.new.self.items ≡ filter (λ i. is_live c.args.tick (instance_of scripts i)) c.args.self.now.things.items = filter_same _ (λ i. is_live c.args.tick (instance_of scripts i)) _ (λ x b q h. (search rules, search rules)) _ _ c.retain.ensures.filtered in
    subst (λ (xs : List (Numbered KeptInstance)). AllByRecursion (IsKept scripts shelf) xs) (sym kept) (all_kept (IsKept scripts shelf) (λ i. is_live c.args.tick (instance_of scripts i)) c.args.self.now.things.items all)

pub returns-clause-placed : goal.returns-clause-placed
returns-clause-placed c scripts all =
    let kept : c.retain.new.self.items ≡ filter (λ i. is_live c.args.tick (instance_of scripts i)) c.args.self.now.things.items = filter_same _ (λ i. is_live c.args.tick (instance_of scripts i)) _ (λ x b q h. (search rules, search rules)) _ _ c.retain.ensures.filtered in
    subst (λ (xs : List (Numbered KeptInstance)). AllByRecursion (IsPlaced scripts) xs) (sym kept) (all_kept (IsPlaced scripts) (λ i. is_live c.args.tick (instance_of scripts i)) c.args.self.now.things.items all)
