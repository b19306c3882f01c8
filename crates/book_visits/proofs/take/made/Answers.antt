use Rattle.std.proofs.Common.{◌≡◌, ap, subst, IfOk}
use Rattle.std.specs.Prelude.{Result, Ok, Err}
use Rattle.std.specs.declared.alloc.AllocError.{AllocError}
use Rattle.script_nodes.specs.Setup.{Library}
use Rattle.script_nodes.specs.Views.{library_of}
use Rattle.replay_spec.specs.Admission.{Admission, begins}
use Rattle.script_nodes.specs.Views.{named_of}
use Rattle.instance_book.specs.declared.place.Place.{Place}
use Rattle.instance_book.specs.declared.book.Book.{Book}
use Rattle.book_visits.specs.declared.ticket.Ticket.{Ticket}
use Rattle.instance_book.specs.Places.{own, given}
use Rattle.instance_book.specs.Makes.{HasSomeStates}
use Rattle.book_visits.specs.Fits.{FitsAs, GoesOnGiven}
use Rattle.instance_book.specs.Views.{script_in}
use Rattle.instance_book.specs.Standing.{book_under, place_of}
use Rattle.book_visits.specs.Admissions.{GoesOnFromPlace, GoesOnBy}
use Rattle.book_visits.proofs.take.made.Goals as goal

pub page_ticket-requires-clause-kept : goal.page_ticket-requires-clause-kept
page_ticket-requires-clause-kept c =
    let kept = c.requires.kept in
    (kept.0, c.in-Resumes.ensures.states (given kept.0) kept.1)

pub returns-in-Resumes-clause-fits : goal.returns-in-Resumes-clause-fits
returns-in-Resumes-clause-fits c = λ all.
    let setup = (library_of c.args.library.now) in
    subst (λ (a : Admission). IfOk c.page_ticket.result (λ t. FitsAs (setup.all) (book_under setup c.args.book.now) t a)) c.in-Resumes.ensures.admission
    (c.page_ticket.ensures.fits (c.in-Resumes.ensures.states (own tt) all))

-- the ticket of a start goes on from nothing
none_before : (l : Library) (b : Book) (a : Admission) (k : _) (s : _) (r : Result Ticket AllocError) → begins k s ≡ a → IfOk r (GoesOnBy l b a)
none_before l b a k s (Ok t) is = subst (λ (x : Admission). GoesOnBy l b x t) is tt
none_before l b a k s (Err e) is = tt

pub returns-in-Begins-clause-goes : goal.returns-in-Begins-clause-goes
returns-in-Begins-clause-goes c =
    none_before (library_of c.args.library.now) c.args.book.now _ c.in-Begins.start (named_of c.in-Begins.script.now) c.start_ticket.result c.in-Begins.ensures.admission

-- the ticket of an answer goes on from its page
page_before : (l : Library) (b : Book) (place : Place) (some : HasSomeStates l.all b) (r : Result Ticket AllocError) → IfOk r (GoesOnGiven some.0 (place_of l.all place))
    → IfOk r (λ t. t.script ≡ place.instance.now.item.script) → IfOk r (GoesOnFromPlace l b (place_of l.all place))
page_before l b place some (Ok t) goes script = record { states = some.0; has = some.1; goes = goes; script = ap (script_in l.all) script }
page_before l b place some (Err e) goes script = tt

pub returns-in-Resumes-clause-goes : goal.returns-in-Resumes-clause-goes
returns-in-Resumes-clause-goes c =
    let l = library_of c.args.library.now in
    let b = c.args.book.now in
    let kept = c.requires.kept in
    subst (λ (a : Admission). IfOk c.page_ticket.result (GoesOnBy l b a)) c.in-Resumes.ensures.admission
    (page_before l b c.in-Resumes.place kept c.page_ticket.result (c.page_ticket.ensures.told kept.0 (c.in-Resumes.ensures.states (given kept.0) kept.1)) c.page_ticket.ensures.script)
