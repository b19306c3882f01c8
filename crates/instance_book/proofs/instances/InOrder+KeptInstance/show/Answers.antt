use Rattle.std.proofs.Common.{refl}
use Rattle.instance_book.specs.declared.numbered.Numbered.{Numbered}
use Rattle.instance_book.specs.declared.instance.KeptInstance.{KeptInstance}
use Rattle.instance_book.specs.Views.{instance_of}
use Rattle.instance_book.specs.Places.{IsPlaced, IsKept}
use Rattle.instance_book.specs.Changes.{shown_with}
use Rattle.instance_book.proofs.Lists.{first_at, within}
use Rattle.instance_book.proofs.States.{kept_next, placed_alike}
use Rattle.instance_book.proofs.Seen.{rises_set, mended, unmended, all_set, instance_some}
use Rattle.instance_book.proofs.instances.InOrder+KeptInstance.show.Goals as goal

pub invariant_of-self : goal.invariant_of-self
invariant_of-self c =
    let x = c.index_mut.result.now in
    let y : Numbered KeptInstance = record { number = x.number; item = c.show.new.self } in
    record { rising = rises_set c.args.self.now.things.items c.args.instance c.in-Some.place x y c.args.self.now.rising c.in-Some.ensures.found c.index_mut.ensures.value refl }

pub show-requires : goal.show-requires
show-requires c =
    let x = c.index_mut.result.now in
    c.requires x (first_at c.args.self.now.things.items c.args.instance c.in-Some.place x c.args.self.now.rising c.in-Some.ensures.found c.index_mut.ensures.value)

pub returns-in-Some-clause-instances : goal.returns-in-Some-clause-instances
returns-in-Some-clause-instances c scripts =
    let x = c.index_mut.result.now in
    let y : Numbered KeptInstance = record { number = x.number; item = c.show.new.self } in
    mended scripts c.args.self.now.things.items c.args.instance c.in-Some.place (shown_with c.args.show c.args.gone.now) x y c.args.self.now.rising c.in-Some.ensures.found c.index_mut.ensures.value refl (c.show.ensures.instance scripts x.number)

pub returns-in-None-clause-instances : goal.returns-in-None-clause-instances
returns-in-None-clause-instances c scripts = unmended scripts c.args.self.now.things.items c.args.instance (shown_with c.args.show c.args.gone.now) c.in-None.ensures.absent

pub returns-in-Some-clause-states : goal.returns-in-Some-clause-states
returns-in-Some-clause-states c scripts shelf next all =
    let xs = c.args.self.now.things.items in
    let x = c.index_mut.result.now in
    let y : Numbered KeptInstance = record { number = x.number; item = c.show.new.self } in
    let first = first_at xs c.args.instance c.in-Some.place x c.args.self.now.rising c.in-Some.ensures.found c.index_mut.ensures.value in
    let is = next (instance_of scripts x) (instance_some scripts c.args.instance xs x first) in
    all_set (IsKept scripts shelf) xs c.in-Some.place x y c.index_mut.ensures.value (within xs c.args.instance c.in-Some.place c.in-Some.ensures.found)
    (kept_next scripts shelf x y c.args.show.page refl c.show.ensures.script c.show.ensures.pages c.show.ensures.shown is.unused is.state) all

pub returns-in-Some-clause-placed : goal.returns-in-Some-clause-placed
returns-in-Some-clause-placed c scripts all =
    let xs = c.args.self.now.things.items in
    let x = c.index_mut.result.now in
    let y : Numbered KeptInstance = record { number = x.number; item = c.show.new.self } in
    all_set (IsPlaced scripts) xs c.in-Some.place x y c.index_mut.ensures.value (within xs c.args.instance c.in-Some.place c.in-Some.ensures.found)
    (placed_alike scripts y x c.show.ensures.script) all
