use Rattle.std.proofs.Common.{◌≡◌, ◌∙◌, ap, sym, subst, ℕ, List, [], length, map, arith}
use Rattle.journal_records.specs.ReplaySpec.Book.{Instance}
use Rattle.journal_records.specs.ReplaySpec.Change.{mend}
use Rattle.instance_book.specs.Views.{instance_of}
use Rattle.instance_book.specs.Places.{CanTake}
use Rattle.instance_book.specs.Changes.{shown_with}
use Rattle.instance_book.specs.Makes.{shelf_from}
use Rattle.instance_book.proofs.Seen.{length_mend, length_seen}
use Rattle.instance_book.proofs.book.Book.extend.Goals as goal

pub invariant_of-self : goal.invariant_of-self
invariant_of-self c =
    let is = map (instance_of []) c.args.self.now.instances.things.items in
    let before = length_seen (instance_of []) c.args.self.now.instances.things.items in
    let x = c.args.extension in
    let made : map (instance_of []) c.show.new.self.things.items ≡ mend x.instance (shown_with x.show c.deref.result.now) is = c.show.ensures.instances [] in
    let after : length c.show.new.self.things.items ≡ length (mend x.instance (shown_with x.show c.deref.result.now) is) =
    sym (length_seen (instance_of []) c.show.new.self.things.items) ∙ ap (λ (js : List Instance). length js) made in
    let same = length_mend x.instance (shown_with x.show c.deref.result.now) is in
    record { ticks = c.args.self.now.ticks; numbers = c.args.self.now.numbers; few = omega (arith, before, same, after, c.args.self.now.few); below = c.args.self.now.below }

pub returns-clause-states : goal.returns-clause-states
returns-clause-states c source scripts kept all = c.show.ensures.states scripts (shelf_from source c.args.self.now.shelf) kept all

pub returns-clause-placed : goal.returns-clause-placed
returns-clause-placed c scripts all = c.show.ensures.placed scripts all

pub show-requires : goal.show-requires
show-requires c i found =
    subst (λ (gone : List ℕ). CanTake c.args.extension.show.page gone i.item.pages) (sym c.deref.ensures.value) (c.requires i found)
