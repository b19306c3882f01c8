use Rattle.std.proofs.Common.{[], arith}
use Rattle.instance_book.specs.Makes.{shelf_from}
use Rattle.instance_book.proofs.Seen.{same_length}
use Rattle.instance_book.proofs.book.Book.room_in.Goals as goal

pub invariant_of-self : goal.invariant_of-self
invariant_of-self c =
    let same = same_length c.make_room_in.new.self.things.items c.args.self.now.instances.things.items (c.make_room_in.ensures.instances []) in
    record { ticks = c.args.self.now.ticks; numbers = c.args.self.now.numbers; few = omega (arith, same, c.args.self.now.few); below = c.args.self.now.below }

pub returns-clause-states : goal.returns-clause-states
returns-clause-states c source scripts all = c.make_room_in.ensures.states scripts (shelf_from source c.args.self.now.shelf) all

pub returns-clause-placed : goal.returns-clause-placed
returns-clause-placed c scripts all = c.make_room_in.ensures.placed scripts all
