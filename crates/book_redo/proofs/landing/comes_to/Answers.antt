use Rattle.std.proofs.Common.{sym, inl, inr}
use Rattle.std.proofs.lemmas.Bool.{and_parts}
use Rattle.script_nodes.specs.Views.{library_of, named_of}
use Rattle.replay_spec.specs.Recovery.{can_go}
use Rattle.instance_book.specs.Views.{used_of, effects_in}
use Rattle.book_redo.specs.Redo.{are_held, HasNoAnswer, IsAnswerTold}
use Rattle.book_redo.proofs.Passed.{of_some, of_none, held_on}
use Rattle.book_redo.proofs.Redone.{stands_there, place_states}
use Rattle.book_redo.proofs.landing.comes_to.Goals as goal

pub told_there-requires : goal.told_there-requires
told_there-requires c =
    let l = library_of c.args.library.now in
    place_states l c.args.book.now c.args.instance c.args.page c.in-Some.place
    (stands_there l c.args.book.now c.args.instance c.args.page _ c.in-Some.place c.in-Some.is c.place_of_numbers.ensures.place c.place_of_numbers.ensures.placed c.place_of_numbers.ensures.states) c.requires.kept

pub returns-in_default-2 : goal.returns-in_default-2
returns-in_default-2 c =
    let l = library_of c.args.library.now in
    record {
      place = c.in-Some.place;
      there = stands_there l c.args.book.now c.args.instance c.args.page _ c.in-Some.place c.in-Some.is c.place_of_numbers.ensures.place c.place_of_numbers.ensures.placed c.place_of_numbers.ensures.states;
      none = of_none _ (HasNoAnswer (named_of c.in-Some.place.script.now) c.in-Some.place.instance.now.item.pages c.in-Some.place.page.now c.args.state) c.in_default-2.is c.in_ok-shown.ensures.none;
    }

pub returns-then-again : goal.returns-then-again
returns-then-again c =
    let l = library_of c.args.library.now in
    record {
      told = record {
        place = c.in-Some.place;
        there = stands_there l c.args.book.now c.args.instance c.args.page _ c.in-Some.place c.in-Some.is c.place_of_numbers.ensures.place c.place_of_numbers.ensures.placed c.place_of_numbers.ensures.states;
        shown = c.in-Some-2.shown;
        told = of_some _ c.in-Some-2.shown (IsAnswerTold (named_of c.in-Some.place.script.now) c.in-Some.place.instance.now.item.pages c.in-Some.place.page.now c.args.state) c.in-Some-2.is c.in_ok-shown.ensures.some;
      };
      off = inl c.if-again.true;
    }

pub returns-then-not-takes : goal.returns-then-not-takes
returns-then-not-takes c =
    let l = library_of c.args.library.now in
    record {
      told = record {
        place = c.in-Some.place;
        there = stands_there l c.args.book.now c.args.instance c.args.page _ c.in-Some.place c.in-Some.is c.place_of_numbers.ensures.place c.place_of_numbers.ensures.placed c.place_of_numbers.ensures.states;
        shown = c.in-Some-2.shown;
        told = of_some _ c.in-Some-2.shown (IsAnswerTold (named_of c.in-Some.place.script.now) c.in-Some.place.instance.now.item.pages c.in-Some.place.page.now c.args.state) c.in-Some-2.is c.in_ok-shown.ensures.some;
      };
      off = inr (sym c.if-not-takes.ensures);
    }

pub extended-requires : goal.extended-requires
extended-requires c =
    let i = c.in-Some.place.instance.now.item in
    let es = effects_in c.args.told in
    held_on es i.cells (and_parts (can_go c.args.told.evicted.items (used_of i.pages)) (are_held es i.cells) (sym c.if-not-takes.ensures)).1

pub returns : goal.returns
returns c =
    let l = library_of c.args.library.now in
    record {
      told = record {
        place = c.in-Some.place;
        there = stands_there l c.args.book.now c.args.instance c.args.page _ c.in-Some.place c.in-Some.is c.place_of_numbers.ensures.place c.place_of_numbers.ensures.placed c.place_of_numbers.ensures.states;
        shown = c.in-Some-2.shown;
        told = of_some _ c.in-Some-2.shown (IsAnswerTold (named_of c.in-Some.place.script.now) c.in-Some.place.instance.now.item.pages c.in-Some.place.page.now c.args.state) c.in-Some-2.is c.in_ok-shown.ensures.some;
      };
      new = c.if-again.false;
      on = sym c.if-not-takes.ensures;
      extension = c.in_ok-extension.ensures;
    }
