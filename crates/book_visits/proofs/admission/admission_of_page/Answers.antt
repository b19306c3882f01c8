use Rattle.std.proofs.Common.{◌∙◌, ap, Option}
use Rattle.script_nodes.specs.Views.{library_of}
use Rattle.replay_spec.specs.Admission.{Place, unless_why, found}
use Rattle.instance_book.specs.Standing.{place_of}
use Rattle.book_visits.proofs.admission.admission_of_page.Goals as goal

pub returns-in-Some-why_not-clause-admission : goal.returns-in-Some-why_not-clause-admission
returns-in-Some-why_not-clause-admission c =
    let library = library_of c.args.library.now in
    ap (unless_why (place_of library.all c.in-Some.place)) ((rw c.clock.ensures.clock at c.in-Some-why_not.ensures) library.all) ∙ ap (λ (o : Option Place). found c.args.book.now.clock o) c.in-Some.ensures.place

pub returns-in-None-clause-admission : goal.returns-in-None-clause-admission
returns-in-None-clause-admission c =
    let library = library_of c.args.library.now in
    ap (unless_why (place_of library.all c.in-Some.place)) ((rw c.clock.ensures.clock at c.in-None.ensures) library.all) ∙ ap (λ (o : Option Place). found c.args.book.now.clock o) c.in-Some.ensures.place
