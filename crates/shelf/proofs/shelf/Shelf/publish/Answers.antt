use Rattle.std.proofs.Common.{◌≡◌, ◌∙◌, ap, sym, subst, refl, Option, Some, None, option_map, IfSome, Err, Contains}
use Rattle.script_value.specs.declared.outcome.Reply.TheVariants as reply
use Rattle.page_names.specs.Views.{target_of}
use Rattle.replay_spec.specs.Book.{Book, spend}
use Rattle.replay_spec.specs.Admission.{refusal_of, admit}
use Rattle.replay_spec.specs.Step as step
use Rattle.book_visits.specs.Admissions.{refusal_for, FitsIn}
use Rattle.book_visits.specs.Fits.{FitsAs}
use Rattle.book_recovery.specs.InstanceBook.Views.{no_journal, book_of}
use Rattle.book_visits.specs.Views.{ticket_of, reply_of}
use Rattle.book_visits.specs.Prepares.{IsCarriedOut}
use Rattle.shelf.specs.declared.doubt.Doubt as doubt_type
use Rattle.shelf.specs.Views.{unmeasured, library_in, beside_of, book_in, doubt_of, FitsNow}
use Rattle.script_value.specs.declared.outcome.Reply.{Reply}
use Rattle.shelf.proofs.Leads.{bars_none}
use Rattle.shelf.specs.Events.{decision_of, TellsReply, no_publish}
use Rattle.shelf.proofs.Beside.{admit_same, fits_at, holds_at, orderly_at}
use Rattle.shelf.proofs.Steps.{replied, barred_by, barred_publish}
use Rattle.shelf.proofs.Standing.{no_call}
use Rattle.shelf.proofs.Shelves.{same_order, kept_told, some_kept}
use Rattle.shelf.proofs.Publishing.{answered, told_answered, no_count, bar_count, free_refusal, barred_refusal, refused_ok, refused_err, not_refused_by, same_error}
use Rattle.shelf.proofs.Fitting.{shown_at, landed_at}
use Rattle.shelf.proofs.Leaving.{Publishes, spent_publishes, visit_anew, publishes_from}
use Rattle.shelf.proofs.Now.{if_none}
use Rattle.shelf.proofs.Tickets.{anew_keeps}
use Rattle.shelf.proofs.Quiet.{untouched, alone}
use Rattle.shelf.proofs.Known.{told_still}
use Rattle.shelf.proofs.shelf.Shelf.publish.Goals as goal
use Rattle.shelf.proofs.shelf.Shelf.publish.Goals.{After-spend, After-prepared, After-land, After-spend-in-Err}

-- a shelf that is barred

bars : (g : _) (c : After-spend g) → step.barred (book_in g.D.Disk.view c.args.self.now) ≡ Some (reply_of c.in-Some.reply)
bars g c = sym c.barred.ensures.barred ∙ ap (λ (o : Option Reply). option_map reply_of o) c.in-Some.is

turned : (g : _) (c : After-spend g)
    → Publishes g.D.Disk.view g.D.Disk.tells g.N.Nonces.nonce c.args.self.now (record c.args.self.now { book = c.spend.new.self }) c.args.ticket c.in-Some.reply
turned g c =
    let view = g.D.Disk.view in
    let tells = g.D.Disk.tells in
    let l = library_in c.args.self.now in
    let s = c.args.self.now in
    let t = c.args.ticket in
    let r = c.in-Some.reply in
    let order = c.requires.in_order in
    let answer = replied s.rules (book_in g.D.Disk.view s) (ticket_of t) (reply_of r) (barred_publish s.rules (book_in g.D.Disk.view s) (ticket_of t) (reply_of r) (bars g c)) in
    spent_publishes view tells g.N.Nonces.nonce s (record s { book = c.spend.new.self }) t r order c.events_are_kept.ensures (g.met.D.Disk.only_now s.journal.disk) c.requires.out
    (c.spend.ensures.book l (beside_of view s)) refl refl refl refl (no_call view tells s.journal) order.knows.noted (told_still s.notes) order.sound order.whole (λ source. c.spend.ensures.states source l.all) (λ own. answer)

pub returns-in-Some-clause-event : goal.returns-in-Some-clause-event
returns-in-Some-clause-event g c = (turned g (goal.at.returns-in-Some-clause-event g c).After-spend).event

pub returns-in-Some-clause-in_order : goal.returns-in-Some-clause-in_order
returns-in-Some-clause-in_order g c = (turned g (goal.at.returns-in-Some-clause-in_order g c).After-spend).in_order

pub returns-in-Some-clause-own : goal.returns-in-Some-clause-own
returns-in-Some-clause-own g c = (turned g (goal.at.returns-in-Some-clause-own g c).After-spend).own

pub returns-in-Some-clause-spent : goal.returns-in-Some-clause-spent
returns-in-Some-clause-spent g c = (turned g (goal.at.returns-in-Some-clause-spent g c).After-spend).spent

pub returns-in-Some-clause-tickets : goal.returns-in-Some-clause-tickets
returns-in-Some-clause-tickets g c = (turned g (goal.at.returns-in-Some-clause-tickets g c).After-spend).tickets

pub returns-in-Some-clause-any_moment : goal.returns-in-Some-clause-any_moment
returns-in-Some-clause-any_moment g c = (turned g (goal.at.returns-in-Some-clause-any_moment g c).After-spend).any_moment

pub returns-in-Some-clause-own_moments : goal.returns-in-Some-clause-own_moments
returns-in-Some-clause-own_moments g c = (turned g (goal.at.returns-in-Some-clause-own_moments g c).After-spend).own_moments

pub returns-in-Some-clause-refused : goal.returns-in-Some-clause-refused
returns-in-Some-clause-refused g c =
    let b = book_in g.D.Disk.view c.args.self.now in
    let r = reply_of c.in-Some.reply in
    subst (λ (o : Option step.Reply). IfSome o (λ y. r ≡ y)) (sym (barred_refusal b (target_of c.args.ticket.target) r (bars g (goal.at.returns-in-Some-clause-refused g c).After-spend))) refl

pub returns-in-Some-clause-none : goal.returns-in-Some-clause-none
returns-in-Some-clause-none g c no_segment free =
    let b = book_in g.D.Disk.view c.args.self.now in
    let told = sym (barred_refusal b (target_of c.args.ticket.target) (reply_of c.in-Some.reply) (bars g (goal.at.returns-in-Some-clause-none g c).After-spend)) ∙ free in
    absurd (let no : ⊥ = cc told in no)

pub returns-in-Some-clause-held : goal.returns-in-Some-clause-held
returns-in-Some-clause-held g c own r is held =
    let l = library_in c.args.self.now in
    let s = c.args.self.now in
    let b = book_in g.D.Disk.view s in
    let t = c.args.ticket in
    subst (λ (d : step.Decision). TellsReply d (reply_of c.in-Some.reply)) (sym (ap (λ (o : Option step.Reply). step.unless o (step.decide (unmeasured s.rules) b (ticket_of t) (admit b (target_of t.target)))) (bars g (goal.at.returns-in-Some-clause-held g c).After-spend))) refl

pub returns-in-Some-clause-memory : goal.returns-in-Some-clause-memory
returns-in-Some-clause-memory g c = (turned g (goal.at.returns-in-Some-clause-memory g c).After-spend).memory

pub returns-in-Some-clause-quiet : goal.returns-in-Some-clause-quiet
returns-in-Some-clause-quiet g c = alone c.in-Some.reply (untouched (g.D.Disk.view c.args.self.now.journal.disk))

pub returns-in-Some-clause-cause : goal.returns-in-Some-clause-cause
returns-in-Some-clause-cause g c =
    let b = book_in g.D.Disk.view c.args.self.now in
    bar_count c.in-Some.reply _ _ (barred_by b (reply_of c.in-Some.reply) (bars g (goal.at.returns-in-Some-clause-cause g c).After-spend))

-- what was prepared

pub prepared-requires-clause-orderly : goal.prepared-requires-clause-orderly
prepared-requires-clause-orderly g c =
    let l = library_in c.args.self.now in
    let s = c.args.self.now in
    orderly_at l (beside_of g.D.Disk.view s) no_journal s.book (ap (λ (o : Option doubt_type.Doubt). option_map doubt_of o) (c.barred.ensures.free c.in_default.is).up) c.requires.in_order.orderly

-- it is prepared on the same book
same_book : (g : _) (c : After-prepared g)
    → let s = c.args.self.now in book_of (library_in s) (beside_of g.D.Disk.view s) c.prepared.new.book ≡ book_in g.D.Disk.view s
same_book g c = c.prepared.ensures.book (library_in c.args.self.now) (beside_of g.D.Disk.view c.args.self.now)

pub land-requires-clause-in_order : goal.land-requires-clause-in_order
land-requires-clause-in_order g c =
    let l = library_in c.args.self.now in
    let s = c.args.self.now in
    same_order g.D.Disk.view g.D.Disk.tells s (record s { book = c.prepared.new.book }) c.requires.in_order (same_book g (goal.at.land-requires-clause-in_order g c).After-prepared) (some_kept l.all s.book c.prepared.new.book c.prepared.ensures.states c.requires.in_order.kept) (kept_told l.all s.book c.prepared.new.book c.prepared.ensures.states) refl refl refl refl refl (c.barred.ensures.free c.in_default.is).leads refl

pub land-requires-clause-out : goal.land-requires-clause-out
land-requires-clause-out g c = subst (λ (y : Book). Contains y.out c.args.ticket.number) (sym (same_book g (goal.at.land-requires-clause-out g c).After-prepared)) c.requires.out

pub prepared-requires-clause-goes : goal.prepared-requires-clause-goes
prepared-requires-clause-goes g c = c.requires.goes.goes

pub land-requires-clause-goes : goal.land-requires-clause-goes
land-requires-clause-goes g c =
    anew_keeps g.D.Disk.view c.args.self.now c.requires.in_order.orderly c.prepared.new.book c.prepared.ensures.states c.prepared.ensures.book c.args.ticket c.requires.goes

pub land-requires-clause-landed : goal.land-requires-clause-landed
land-requires-clause-landed g c = landed_at (library_in c.args.self.now) c.args.self.now.book c.prepared.new.book c.args.ticket c.in-Ok.prepared c.prepared.ensures.book c.in-Ok.ensures.landed

-- a ticket that fits there fitted before
fitted : (g : _) (c : After-prepared g)
    → FitsNow g.D.Disk.view (record c.args.self.now { book = c.prepared.new.book }) c.args.ticket → FitsIn (library_in c.args.self.now) c.args.self.now.book c.args.ticket.target c.args.ticket
fitted g c fits =
    let l = library_in c.args.self.now in
    let s = c.args.self.now in
    let t = c.args.ticket in
    fits_at l (beside_of g.D.Disk.view s) no_journal s.book t (target_of t.target) (subst (λ (y : Book). FitsAs l.all y t (admit y (target_of t.target))) (same_book g c) fits)

pub land-requires-clause-shown : goal.land-requires-clause-shown
land-requires-clause-shown g c own spelled =
    let l = library_in c.args.self.now in
    shown_at l c.args.self.now.book c.prepared.new.book c.in-Ok.prepared.change (c.prepared.ensures.book l no_journal) (c.in-Ok.ensures.shown (fitted g (goal.at.land-requires-clause-shown g c).After-prepared own.fits) spelled)

pub land-requires-clause-decided : goal.land-requires-clause-decided
land-requires-clause-decided g c own =
    let l = library_in c.args.self.now in
    let s = c.args.self.now in
    let here = (goal.at.land-requires-clause-decided g c).After-prepared in
    let P : Book → Type 0 = λ y. IsCarriedOut l (unmeasured s.rules) y (step.publish_comes (unmeasured s.rules) y (ticket_of c.args.ticket)) c.in-Ok.prepared in
    let free = bars_none g.D.Disk.view s (c.barred.ensures.free c.in_default.is) in
    let decided : P (book_in g.D.Disk.view s) = c.in-Ok.ensures.decided (fitted g here own.fits) (beside_of g.D.Disk.view s) free in
    subst P (sym (same_book g here)) decided

-- where there was no memory for the run of an admitted target, that is the answer
wanting : (g : _) (c : After-prepared g) → let s = c.args.self.now in
    c.args.segment ≡ None → no_publish (book_in g.D.Disk.view s) (target_of c.args.ticket.target) ≡ None → c.prepared.result ≡ Err reply.Memory
wanting g c no_segment unrefused =
    let l = library_in c.args.self.now in
    let s = c.args.self.now in
    let b = book_in g.D.Disk.view s in
    let x = target_of c.args.ticket.target in
    let free = bars_none g.D.Disk.view s (c.barred.ensures.free c.in_default.is) in
    let why : refusal_of (admit b x) ≡ None = not_refused_by (refusal_of (admit b x)) (sym (free_refusal b x free) ∙ unrefused) in
    c.prepared.ensures.none no_segment (ap refusal_of (admit_same (library_in s) no_journal (beside_of g.D.Disk.view s) s.book x) ∙ why)

landed : (g : _) (c : After-land g) → Publishes g.D.Disk.view g.D.Disk.tells g.N.Nonces.nonce c.args.self.now c.land.new.self c.args.ticket c.land.result
landed g c =
    let done = c.land.ensures in
    publishes_from g.D.Disk.view g.D.Disk.tells c.args.self.now c.prepared.new.book c.prepared.ensures.book c.prepared.ensures.states c.args.ticket c.requires.in_order.orderly g.N.Nonces.nonce c.land.new.self c.land.result (record {
      event = done.event;
      in_order = done.in_order;
      own = done.own;
      spent = done.spent;
      any_moment = done.any_moment;
      own_moments = done.own_moments;
      memory = done.memory;
      tickets = done.tickets;
    })

pub returns-in-Ok-clause-event : goal.returns-in-Ok-clause-event
returns-in-Ok-clause-event g c = (landed g (goal.at.returns-in-Ok-clause-event g c).After-land).event

pub returns-in-Ok-clause-own : goal.returns-in-Ok-clause-own
returns-in-Ok-clause-own g c = (landed g (goal.at.returns-in-Ok-clause-own g c).After-land).own

pub returns-in-Ok-clause-spent : goal.returns-in-Ok-clause-spent
returns-in-Ok-clause-spent g c = (landed g (goal.at.returns-in-Ok-clause-spent g c).After-land).spent

pub returns-in-Ok-clause-tickets : goal.returns-in-Ok-clause-tickets
returns-in-Ok-clause-tickets g c = (landed g (goal.at.returns-in-Ok-clause-tickets g c).After-land).tickets

pub returns-in-Ok-clause-any_moment : goal.returns-in-Ok-clause-any_moment
returns-in-Ok-clause-any_moment g c = (landed g (goal.at.returns-in-Ok-clause-any_moment g c).After-land).any_moment

pub returns-in-Ok-clause-own_moments : goal.returns-in-Ok-clause-own_moments
returns-in-Ok-clause-own_moments g c = (landed g (goal.at.returns-in-Ok-clause-own_moments g c).After-land).own_moments

pub returns-in-Ok-clause-refused : goal.returns-in-Ok-clause-refused
returns-in-Ok-clause-refused g c =
    let l = library_in c.args.self.now in
    let s = c.args.self.now in
    let t = c.args.ticket in
    let b = book_in g.D.Disk.view s in
    let x = target_of t.target in
    let free = bars_none g.D.Disk.view s (c.barred.ensures.free c.in_default.is) in
    let none = refused_ok (refusal_for (library_in s) s.book t.target) c.prepared.result c.in-Ok.prepared c.prepared.ensures.refused c.in-Ok.is in
    let why : refusal_of (admit b x) ≡ None = ap refusal_of (admit_same (library_in s) (beside_of g.D.Disk.view s) no_journal s.book x) ∙ none in
    if_none (no_publish b x) (λ r. reply_of c.land.result ≡ r) (free_refusal b x free ∙ ap step.refused_by why)

pub returns-in-Ok-clause-none : goal.returns-in-Ok-clause-none
returns-in-Ok-clause-none g c no_segment free =
    let wants = wanting g (goal.at.returns-in-Ok-clause-none g c).After-prepared no_segment free in
    let made = c.in-Ok.is in
    absurd (let no : ⊥ = cc (made, wants) in no)

pub returns-in-Ok-clause-held : goal.returns-in-Ok-clause-held
returns-in-Ok-clause-held g c own r is held =
    let s = c.args.self.now in
    subst (λ (y : Book). TellsReply (step.publish_comes (unmeasured s.rules) y (ticket_of c.args.ticket)) (reply_of c.land.result)) (same_book g (goal.at.returns-in-Ok-clause-held g c).After-prepared)
    (c.land.ensures.told (visit_anew g.D.Disk.view g.D.Disk.tells s c.prepared.new.book c.prepared.ensures.book c.prepared.ensures.states c.args.ticket own))

pub returns-in-Ok-clause-memory : goal.returns-in-Ok-clause-memory
returns-in-Ok-clause-memory g c = (landed g (goal.at.returns-in-Ok-clause-memory g c).After-land).memory

pub returns-in-Ok-clause-quiet : goal.returns-in-Ok-clause-quiet
returns-in-Ok-clause-quiet g c = c.land.ensures.quiet

-- what was refused, or found no memory

refused : (g : _) (c : After-spend-in-Err g)
    → Publishes g.D.Disk.view g.D.Disk.tells g.N.Nonces.nonce c.args.self.now (record c.args.self.now { book = c.spend-in-Err.new.self }) c.args.ticket c.in-Err.reply
refused g c =
    let view = g.D.Disk.view in
    let tells = g.D.Disk.tells in
    let l = library_in c.args.self.now in
    let s = c.args.self.now in
    let t = c.args.ticket in
    let here = beside_of g.D.Disk.view s in
    let free = bars_none g.D.Disk.view s (c.barred.ensures.free c.in_default.is) in
    let order = c.requires.in_order in
    spent_publishes view tells g.N.Nonces.nonce s (record s { book = c.spend-in-Err.new.self }) t c.in-Err.reply order c.events_are_kept.ensures (g.met.D.Disk.only_now s.journal.disk) c.requires.out
    (c.spend-in-Err.ensures.book l here ∙ ap (spend t.number) (c.prepared.ensures.book l here)) refl refl refl refl (no_call view tells s.journal) order.knows.noted (told_still s.notes) order.sound order.whole
    (λ source all. c.spend-in-Err.ensures.states source l.all (c.prepared.ensures.states source l.all all))
    (λ own.
    let decided = c.in-Err.ensures.decided (fits_at l here no_journal s.book t (target_of t.target) own.fits) here free in
    answered l s.rules (book_in g.D.Disk.view s) t c.in-Err.reply decided)

pub returns-clause-event : goal.returns-clause-event
returns-clause-event g c = (refused g (goal.at.returns-clause-event g c).After-spend-in-Err).event

pub returns-clause-in_order : goal.returns-clause-in_order
returns-clause-in_order g c = (refused g (goal.at.returns-clause-in_order g c).After-spend-in-Err).in_order

pub returns-clause-own : goal.returns-clause-own
returns-clause-own g c = (refused g (goal.at.returns-clause-own g c).After-spend-in-Err).own

pub returns-clause-spent : goal.returns-clause-spent
returns-clause-spent g c = (refused g (goal.at.returns-clause-spent g c).After-spend-in-Err).spent

pub returns-clause-tickets : goal.returns-clause-tickets
returns-clause-tickets g c = (refused g (goal.at.returns-clause-tickets g c).After-spend-in-Err).tickets

pub returns-clause-any_moment : goal.returns-clause-any_moment
returns-clause-any_moment g c = (refused g (goal.at.returns-clause-any_moment g c).After-spend-in-Err).any_moment

pub returns-clause-own_moments : goal.returns-clause-own_moments
returns-clause-own_moments g c = (refused g (goal.at.returns-clause-own_moments g c).After-spend-in-Err).own_moments

pub returns-clause-refused : goal.returns-clause-refused
returns-clause-refused g c =
    let l = library_in c.args.self.now in
    let s = c.args.self.now in
    let t = c.args.ticket in
    let b = book_in g.D.Disk.view s in
    let x = target_of t.target in
    let free = bars_none g.D.Disk.view s (c.barred.ensures.free c.in_default.is) in
    let told = refused_err (refusal_for (library_in s) s.book t.target) c.prepared.result c.in-Err.reply c.prepared.ensures.refused c.in-Err.is in
    let why : refusal_for (library_in s) s.book t.target ≡ refusal_of (admit b x) = ap refusal_of (admit_same (library_in s) no_journal (beside_of g.D.Disk.view s) s.book x) in
    subst (λ (o : Option step.Reply). IfSome o (λ r. reply_of c.in-Err.reply ≡ r)) (sym (free_refusal b x free ∙ ap step.refused_by (sym why))) told

pub returns-clause-none : goal.returns-clause-none
returns-clause-none g c no_segment free = same_error c.prepared.result c.in-Err.reply reply.Memory c.in-Err.is (wanting g (goal.at.returns-clause-none g c).After-prepared no_segment free)

pub returns-clause-held : goal.returns-clause-held
returns-clause-held g c own r is held =
    let l = library_in c.args.self.now in
    let s = c.args.self.now in
    let t = c.args.ticket in
    let here = beside_of g.D.Disk.view s in
    let free = bars_none g.D.Disk.view s (c.barred.ensures.free c.in_default.is) in
    let fits = fits_at l here no_journal s.book t (target_of t.target) own.fits in
    let holds = holds_at l here no_journal s.book (target_of t.target) _ held in
    let prepares = c.in-Err.ensures.held fits r is holds here free in
    told_answered l s.rules (book_in g.D.Disk.view s) (decision_of g.D.Disk.view s t) c.in-Err.reply prepares

pub returns-clause-memory : goal.returns-clause-memory
returns-clause-memory g c = (refused g (goal.at.returns-clause-memory g c).After-spend-in-Err).memory

pub returns-clause-cause : goal.returns-clause-cause
returns-clause-cause g c = no_count c.in-Err.reply _ _ c.in-Err.ensures.tells

pub returns-clause-quiet : goal.returns-clause-quiet
returns-clause-quiet g c = alone c.in-Err.reply (untouched (g.D.Disk.view c.args.self.now.journal.disk))
