use Rattle.std.proofs.Common.{◌≡◌, ◌∙◌, ap, sym, List, [], length, map, filter, arith}
use Rattle.journal_records.specs.ReplaySpec.Book.{Instance, is_live}
use Rattle.instance_book.specs.Views.{instance_of}
use Rattle.instance_book.specs.Makes.{shelf_from}
use Rattle.instance_book.proofs.Seen.{length_kept, length_seen}
use Rattle.instance_book.proofs.book.Book.free_expired.Goals as goal

pub invariant_of-self : goal.invariant_of-self
invariant_of-self c =
    let is = map (instance_of []) c.args.self.now.instances.things.items in
    let before = length_seen (instance_of []) c.args.self.now.instances.things.items in
    let after : length c.keep_live.new.self.things.items ≡ length (filter (is_live c.args.tick) is) = sym (length_seen (instance_of []) c.keep_live.new.self.things.items) ∙ ap (λ (js : List Instance). length js) (c.keep_live.ensures.instances []) in
    let fewer = length_kept (is_live c.args.tick) is in
    record { ticks = c.requires.low; numbers = c.args.self.now.numbers; few = omega (arith, before, fewer, after, c.args.self.now.few); below = c.args.self.now.below }

pub overflow_sub-result : goal.overflow_sub-result
overflow_sub-result c =
    let is = map (instance_of []) c.args.self.now.instances.things.items in
    let before = length_seen (instance_of []) c.args.self.now.instances.things.items in
    let after : length c.keep_live.new.self.things.items ≡ length (filter (is_live c.args.tick) is) = sym (length_seen (instance_of []) c.keep_live.new.self.things.items) ∙ ap (λ (js : List Instance). length js) (c.keep_live.ensures.instances []) in
    let fewer = length_kept (is_live c.args.tick) is in
    omega (arith, before, after, fewer, c.len.ensures, c.len-before.ensures)

pub returns-clause-states : goal.returns-clause-states
returns-clause-states c source scripts all = c.keep_live.ensures.states scripts (shelf_from source c.args.self.now.shelf) all

pub returns-clause-placed : goal.returns-clause-placed
returns-clause-placed c scripts all = c.keep_live.ensures.placed scripts all
