use Rattle.std.proofs.Common.{◌≡◌, subst, length, List, [], ℕ, arith, rules, Contains}
use Rattle.instance_book.specs.Makes.{shelf_from}
use Rattle.instance_book.proofs.Seen.{same_length}
use Rattle.instance_book.proofs.book.Book.try_clone.Goals as goal

pub invariant_of-result : goal.invariant_of-result
invariant_of-result c =
    let out : c.in_ok-out.out.items ≡ c.args.self.now.out.items = search rules in
    let many : length c.in_ok-instances.instances.things.items ≡ length c.args.self.now.instances.things.items =
    same_length c.in_ok-instances.instances.things.items c.args.self.now.instances.things.items (c.in_ok-instances.ensures.instances []) in
    record {
      ticks = c.args.self.now.ticks;
      numbers = c.args.self.now.numbers;
      few = omega (arith, many, c.args.self.now.few);
      below = λ n h. c.args.self.now.below n (subst (λ (ms : List ℕ). Contains ms n) out h);
    }

pub returns-clause-states : goal.returns-clause-states
returns-clause-states c source scripts all = c.in_ok-instances.ensures.states scripts (shelf_from source c.args.self.now.shelf) all

pub returns-clause-placed : goal.returns-clause-placed
returns-clause-placed c scripts all = c.in_ok-instances.ensures.placed scripts all
