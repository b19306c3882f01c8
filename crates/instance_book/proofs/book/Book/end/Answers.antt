use Rattle.std.proofs.Common.{◌≡◌, ◌∙◌, ap, sym, List, [], length, map, arith}
use Rattle.journal_records.specs.ReplaySpec.Book.{Instance}
use Rattle.journal_records.specs.ReplaySpec.Change.{mend}
use Rattle.instance_book.specs.Views.{instance_of}
use Rattle.instance_book.specs.Changes.{ended_with}
use Rattle.instance_book.specs.Makes.{shelf_from}
use Rattle.instance_book.proofs.Seen.{length_mend, length_seen}
use Rattle.instance_book.proofs.book.Book.end.Goals as goal

pub invariant_of-self : goal.invariant_of-self
invariant_of-self c =
    let is = map (instance_of []) c.args.self.now.instances.things.items in
    let before = length_seen (instance_of []) c.args.self.now.instances.things.items in
    let e = c.args.ending in
    let f : Instance → Instance = ended_with e.record.page e.record.ticket e.after in
    let after : length c.end.new.self.things.items ≡ length (mend e.record.instance f is) =
    sym (length_seen (instance_of []) c.end.new.self.things.items) ∙ ap (λ (js : List Instance). length js) (c.end.ensures.instances []) in
    let same = length_mend e.record.instance f is in
    record { ticks = c.args.self.now.ticks; numbers = c.args.self.now.numbers; few = omega (arith, before, same, after, c.args.self.now.few); below = c.args.self.now.below }

pub returns-clause-states : goal.returns-clause-states
returns-clause-states c source scripts all = c.end.ensures.states scripts (shelf_from source c.args.self.now.shelf) all

pub returns-clause-placed : goal.returns-clause-placed
returns-clause-placed c scripts all = c.end.ensures.placed scripts all
