use Rattle.std.proofs.Common.{◌≡◌, ◌∙◌, ap, subst, refl, map, List, Result, Ok, Err, OnOk}
use Rattle.journal_records.specs.ReplaySpec.Marks.{uses_of, evictions_of}
use Rattle.instance_book.specs.declared.numbered.Numbered.{Numbered}
use Rattle.instance_book.specs.declared.page.KeptPage.{KeptPage}
use Rattle.instance_book.specs.declared.instance.KeptInstance.{KeptInstance}
use Rattle.instance_book.specs.Lists.{HasRoom}
use Rattle.instance_book.specs.Views.{page_of, mark_of, instance_of}
use Rattle.instance_book.specs.Places.{shown_of, IsPlaced, IsKept}
use Rattle.instance_book.proofs.Lists.{within}
use Rattle.instance_book.proofs.States.{kept_alike, placed_alike}
use Rattle.instance_book.proofs.Seen.{rises_set, mended, mend_nothing, first_set, all_set}
use Rattle.instance_book.proofs.instances.InOrder+KeptInstance.make_room_in.Goals as goal

pub invariant_of-self : goal.invariant_of-self
invariant_of-self c =
    let x = c.index_mut.result.now in
    let y : Numbered KeptInstance = record { number = x.number; item = record x.item { pages = c.make_room.new.self } } in
    record { rising = rises_set c.args.self.now.things.items c.args.number c.in-Some.place x y c.args.self.now.rising c.in-Some.ensures.found c.index_mut.ensures.value refl }

pub returns-in-Some-clause-instances : goal.returns-in-Some-clause-instances
returns-in-Some-clause-instances c scripts =
    let x = c.index_mut.result.now in
    let y : Numbered KeptInstance = record { number = x.number; item = record x.item { pages = c.make_room.new.self } } in
    let same : instance_of scripts y ≡ instance_of scripts x = ap (λ (ps : List (Numbered KeptPage)). record (instance_of scripts x) { used = uses_of (map mark_of ps); evicted = evictions_of (map mark_of ps); pages = map page_of ps }) c.make_room.ensures.things in
    mended scripts c.args.self.now.things.items c.args.number c.in-Some.place (λ i. i) x y c.args.self.now.rising c.in-Some.ensures.found c.index_mut.ensures.value refl same
    ∙ mend_nothing scripts c.args.number (map (instance_of scripts) c.args.self.now.things.items)

on_ok : {E P Q : Type 0} (r : Result (Unit {0}) E) → OnOk r P → (P → Q) → OnOk r Q
on_ok (Ok x) p f = f p
on_ok (Err e) p f = tt

pub returns-in-Some-clause-room : goal.returns-in-Some-clause-room
returns-in-Some-clause-room c =
    let x = c.index_mut.result.now in
    let y : Numbered KeptInstance = record { number = x.number; item = record x.item { pages = c.make_room.new.self } } in
    let written = first_set c.args.self.now.things.items c.args.number c.in-Some.place x y c.args.self.now.rising c.in-Some.ensures.found c.index_mut.ensures.value refl in
    on_ok c.make_room.result c.make_room.ensures.room (λ room i h. let same : y ≡ i = cc (written, h) in subst (λ (j : Numbered KeptInstance). HasRoom j.item.pages) same room)

pub returns-in-Some-clause-states : goal.returns-in-Some-clause-states
returns-in-Some-clause-states c scripts shelf all =
    let x = c.index_mut.result.now in
    let y : Numbered KeptInstance = record { number = x.number; item = record x.item { pages = c.make_room.new.self } } in
    all_set (IsKept scripts shelf) c.args.self.now.things.items c.in-Some.place x y c.index_mut.ensures.value (within c.args.self.now.things.items c.args.number c.in-Some.place c.in-Some.ensures.found)
    (kept_alike scripts shelf y x refl refl (ap (map page_of) c.make_room.ensures.things) (ap (map shown_of) c.make_room.ensures.things)) all

pub returns-in-Some-clause-placed : goal.returns-in-Some-clause-placed
returns-in-Some-clause-placed c scripts all =
    let x = c.index_mut.result.now in
    let y : Numbered KeptInstance = record { number = x.number; item = record x.item { pages = c.make_room.new.self } } in
    all_set (IsPlaced scripts) c.args.self.now.things.items c.in-Some.place x y c.index_mut.ensures.value (within c.args.self.now.things.items c.args.number c.in-Some.place c.in-Some.ensures.found)
    (placed_alike scripts y x refl) all
