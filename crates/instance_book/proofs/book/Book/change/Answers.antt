use Rattle.std.proofs.Common.{◌≡◌, ◌∙◌, ◌<◌, ap, sym, subst, ℕ, List, [], length, map, arith, not, ◌==◌}
use Rattle.journal_records.specs.ReplaySpec.Book.{Instance}
use Rattle.journal_records.specs.ReplaySpec.Change.{put_instance, without}
use Rattle.instance_book.specs.Views.{instance_of}
use Rattle.instance_book.specs.Changes.{OpensKept}
use Rattle.instance_book.specs.Makes.{shelf_from}
use Rattle.instance_book.proofs.Seen.{length_put, length_kept, length_seen}
use Rattle.instance_book.proofs.States.{kept_first}
use Rattle.instance_book.proofs.book.Book.change.Goals as goal

pub invariant_of-self : goal.invariant_of-self
invariant_of-self c =
    let is = map (instance_of []) c.args.self.now.instances.things.items in
    let before = length_seen (instance_of []) c.args.self.now.instances.things.items in
    let more = length_put (instance_of [] c.begin.result) is in
    let after : length c.put_instance.new.self.things.items ≡ length (put_instance (instance_of [] c.begin.result) is) = sym (length_seen (instance_of []) c.put_instance.new.self.things.items) ∙ ap (λ (js : List Instance). length js) (c.put_instance.ensures.instances []) in
    let room = rw (c.in-Some.is, c.in-Opens.is) at c.requires in
    record { ticks = c.args.self.now.ticks; numbers = c.args.self.now.numbers; few = omega (arith, before, more, after, room.few); below = c.args.self.now.below }

pub invariant_of-self-in-Finishes : goal.invariant_of-self-in-Finishes
invariant_of-self-in-Finishes c =
    let is = map (instance_of []) c.args.self.now.instances.things.items in
    let before = length_seen (instance_of []) c.args.self.now.instances.things.items in
    let n = c.in-Finishes.finish.record.instance in
    let after : length c.free.new.self.things.items ≡ length (without n is) = sym (length_seen (instance_of []) c.free.new.self.things.items) ∙ ap (λ (js : List Instance). length js) (c.free.ensures.instances []) in
    let fewer = length_kept (λ (i : Instance). not (i.number == n)) is in
    record { ticks = c.args.self.now.ticks; numbers = c.args.self.now.numbers; few = omega (arith, before, fewer, after, c.args.self.now.few); below = c.args.self.now.below }

pub returns-in-Opens-clause-states : goal.returns-in-Opens-clause-states
returns-in-Opens-clause-states c source scripts kept all =
    let o = c.in-Opens.opening in
    let shelf = shelf_from source c.args.self.now.shelf in
    let own : OpensKept scripts shelf o = rw (c.in-Some.is, c.in-Opens.is) at kept in
    c.put_instance.ensures.states scripts shelf
    (kept_first scripts shelf o c.begin.result own c.begin.ensures.number c.begin.ensures.script c.begin.ensures.pages c.begin.ensures.shown) all

pub returns-in-Opens-clause-placed : goal.returns-in-Opens-clause-placed
returns-in-Opens-clause-placed c scripts placed all =
    let o = c.in-Opens.opening in
    let own : o.instance.script < length scripts = rw (c.in-Some.is, c.in-Opens.is) at placed in
    c.put_instance.ensures.placed scripts (subst (λ (k : ℕ). k < length scripts) (sym c.begin.ensures.script) own) all

pub returns-in-Extends-clause-placed : goal.returns-in-Extends-clause-placed
returns-in-Extends-clause-placed c scripts placed all = c.extend.ensures.placed scripts all

pub returns-in-Ends-clause-placed : goal.returns-in-Ends-clause-placed
returns-in-Ends-clause-placed c scripts placed all = c.end.ensures.placed scripts all

pub returns-in-Finishes-clause-placed : goal.returns-in-Finishes-clause-placed
returns-in-Finishes-clause-placed c scripts placed all = c.free.ensures.placed scripts all

pub returns-in-Extends-clause-states : goal.returns-in-Extends-clause-states
returns-in-Extends-clause-states c source scripts kept all =
    c.extend.ensures.states source scripts (rw (c.in-Some.is, c.in-Extends.is) at kept) all

pub returns-in-Ends-clause-states : goal.returns-in-Ends-clause-states
returns-in-Ends-clause-states c source scripts kept all = c.end.ensures.states source scripts all

pub returns-in-Finishes-clause-states : goal.returns-in-Finishes-clause-states
returns-in-Finishes-clause-states c source scripts kept all = c.free.ensures.states scripts (shelf_from source c.args.self.now.shelf) all

pub returns-in-Extends-clause-book : goal.returns-in-Extends-clause-book
returns-in-Extends-clause-book c library beside = rw (c.in-Some.is, c.in-Extends.is) (c.extend.ensures.book library beside)

pub returns-in-Ends-clause-book : goal.returns-in-Ends-clause-book
returns-in-Ends-clause-book c library beside = rw (c.in-Some.is, c.in-Ends.is) (c.end.ensures.book library beside)
