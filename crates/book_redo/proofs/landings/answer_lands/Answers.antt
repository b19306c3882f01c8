use Rattle.std.proofs.Common.{ap, sym, subst, option_map, Option, Some, None, refl}
use Rattle.script_nodes.specs.Views.{library_of}
use Rattle.instance_book.specs.declared.place.Place.{Place}
use Rattle.instance_book.specs.Standing.{IsPlaceOf, place_of}
use Rattle.book_redo.proofs.Held.{an_answer, taken_so}
use Rattle.book_redo.proofs.landings.answer_lands.Goals as goal

pub returns-in-Some : goal.returns-in-Some
returns-in-Some c =
    let l = library_of c.args.library.now in
    let at = place_of l.all c.in-Some.place in
    an_answer l c.args.book.now c.args.instance c.args.page c.args.told.now (Some at) c.takes.result
    (subst (λ (p : Option Place). IsPlaceOf l c.args.book.now c.args.instance c.args.page p) c.in-Some.is c.place_of_numbers.ensures.place)
    (taken_so c.args.told.now at c.takes.result c.takes.ensures)

pub returns-in-None : goal.returns-in-None
returns-in-None c =
    let l = library_of c.args.library.now in
    an_answer l c.args.book.now c.args.instance c.args.page c.args.told.now None _
    (subst (λ (p : Option Place). IsPlaceOf l c.args.book.now c.args.instance c.args.page p) c.in-None.is c.place_of_numbers.ensures.place) refl
