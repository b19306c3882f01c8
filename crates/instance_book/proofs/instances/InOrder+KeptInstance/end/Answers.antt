use Rattle.std.proofs.Common.{refl}
use Rattle.instance_book.specs.declared.numbered.Numbered.{Numbered}
use Rattle.instance_book.specs.declared.instance.KeptInstance.{KeptInstance}
use Rattle.instance_book.specs.Places.{IsPlaced, IsKept}
use Rattle.instance_book.specs.Changes.{ended_with}
use Rattle.instance_book.proofs.States.{kept_alike, placed_alike}
use Rattle.instance_book.proofs.Lists.{within}
use Rattle.instance_book.proofs.Seen.{rises_set, mended, unmended, all_set}
use Rattle.instance_book.proofs.instances.InOrder+KeptInstance.end.Goals as goal

pub invariant_of-self : goal.invariant_of-self
invariant_of-self c =
    let x = c.index_mut.result.now in
    let y : Numbered KeptInstance = record { number = x.number; item = c.end.new.self } in
    record { rising = rises_set c.args.self.now.things.items c.args.instance c.in-Some.place x y c.args.self.now.rising c.in-Some.ensures.found c.index_mut.ensures.value refl }

pub returns-in-Some-clause-instances : goal.returns-in-Some-clause-instances
returns-in-Some-clause-instances c scripts =
    let x = c.index_mut.result.now in
    let y : Numbered KeptInstance = record { number = x.number; item = c.end.new.self } in
    mended scripts c.args.self.now.things.items c.args.instance c.in-Some.place (ended_with c.args.page c.args.number c.args.after) x y c.args.self.now.rising c.in-Some.ensures.found c.index_mut.ensures.value refl (c.end.ensures.instance scripts x.number)

pub returns-in-None-clause-instances : goal.returns-in-None-clause-instances
returns-in-None-clause-instances c scripts = unmended scripts c.args.self.now.things.items c.args.instance (ended_with c.args.page c.args.number c.args.after) c.in-None.ensures.absent

pub returns-in-Some-clause-states : goal.returns-in-Some-clause-states
returns-in-Some-clause-states c scripts shelf all =
    let x = c.index_mut.result.now in
    let y : Numbered KeptInstance = record { number = x.number; item = c.end.new.self } in
    all_set (IsKept scripts shelf) c.args.self.now.things.items c.in-Some.place x y c.index_mut.ensures.value (within c.args.self.now.things.items c.args.instance c.in-Some.place c.in-Some.ensures.found)
    (kept_alike scripts shelf y x refl c.end.ensures.script c.end.ensures.pages.pages c.end.ensures.pages.shown) all

pub returns-in-Some-clause-placed : goal.returns-in-Some-clause-placed
returns-in-Some-clause-placed c scripts all =
    let x = c.index_mut.result.now in
    let y : Numbered KeptInstance = record { number = x.number; item = c.end.new.self } in
    all_set (IsPlaced scripts) c.args.self.now.things.items c.in-Some.place x y c.index_mut.ensures.value (within c.args.self.now.things.items c.args.instance c.in-Some.place c.in-Some.ensures.found)
    (placed_alike scripts y x c.end.ensures.script) all
