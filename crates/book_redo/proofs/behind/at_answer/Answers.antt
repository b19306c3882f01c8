use Rattle.std.proofs.Common.{subst, Option}
use Rattle.script_nodes.specs.Views.{library_of, named_of}
use Rattle.machine_states.specs.Views.{origin_of}
use Rattle.instance_book.specs.declared.place.Place.{Place}
use Rattle.instance_book.specs.Places.{given}
use Rattle.instance_book.specs.Standing.{IsPlaceOf}
use Rattle.journal_spec.specs.Retaking.{arena_of}
use Rattle.book_redo.proofs.Before.{stored_origin, answer_none, answer_some, answer_owns}
use Rattle.book_redo.proofs.behind.at_answer.Goals as goal

pub origin_at-requires : goal.origin_at-requires
origin_at-requires c =
    let kept = c.requires.kept in
    let here = c.in-Some.ensures.states (given kept.0) kept.1 in
    record { home = given kept.0; all = here.pages; own = here.state }

pub returns-in_default-clause-told : goal.returns-in_default-clause-told
returns-in_default-clause-told c =
    let l = library_of c.args.library.now in
    answer_none l c.args.book.now c.args.instance c.args.page
    (subst (λ (p : Option Place). IsPlaceOf l c.args.book.now c.args.instance c.args.page p) c.in_default.is c.place_of_numbers.ensures.place)

pub returns-clause-told : goal.returns-clause-told
returns-clause-told c =
    answer_some (library_of c.args.library.now) c.args.book.now c.args.instance c.args.page c.in-Some.place c.in_ok-from.from c.next_links.result
    c.in-Some.ensures.place c.in-Some.ensures.placed c.in-Some.ensures.states c.next_links.ensures c.in_ok-from.ensures.origin c.in_ok-from.ensures.stored

pub returns-clause-own : goal.returns-clause-own
returns-clause-own c has =
    answer_owns (library_of c.args.library.now) c.args.book.now c.args.instance c.args.page c.in-Some.place c.in_ok-from.from c.next_links.result
    c.in-Some.ensures.place c.in-Some.ensures.placed c.in-Some.ensures.states c.in_ok-from.ensures.origin c.in_ok-from.ensures.stored has

pub returns-clause-stored : goal.returns-clause-stored
returns-clause-stored c = stored_origin (arena_of (named_of c.in-Some.place.script.now).script) (origin_of c.in_ok-from.from) c.in_ok-from.ensures.stored
