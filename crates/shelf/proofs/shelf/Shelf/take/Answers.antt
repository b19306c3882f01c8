use Rattle.std.proofs.Common.{◌≡◌, ◌∙◌, ap, sym, subst, refl, ◌==◌, ◌^◌, ◌+◌, true, false, arith, List, ℕ, ◌++◌, ◌∷◌, [], Option, Some, None, option_map, Contains}
use Rattle.std.proofs.lemmas.Bool.Decides.{nat_tests}
use Rattle.std.proofs.lemmas.List.Elements.{Contains-push}
use Rattle.script_value.specs.Views.{meaning}
use Rattle.page_names.specs.Names.{Destination}
use Rattle.page_names.specs.Views.{target_of}
use Rattle.replay_spec.specs.Book.{Book, draw}
use Rattle.replay_spec.specs.Admission.{refusal_of, admit}
use Rattle.replay_spec.specs.Next as next
use Rattle.replay_spec.specs.Step as step
use Rattle.book_recovery.specs.JournalSpec.Whole.{HasWholeScripts}
use Rattle.book_visits.specs.Fits.{FitsAs}
use Rattle.book_recovery.specs.InstanceBook.Views.{no_journal}
use Rattle.book_recovery.specs.InstanceBook.Standing.{book_under}
use Rattle.book_visits.specs.Prepares.{HasItsScript}
use Rattle.script_value.specs.declared.outcome.Reply.{Reply}
use Rattle.book_visits.specs.Views.{reply_of}
use Rattle.shelf.specs.Views.{rules_of, library_in, beside_of, book_in, shelf_of}
use Rattle.shelf.proofs.Beside.{admit_same, fits_at}
use Rattle.shelf.proofs.Steps.{barred_by, barred_take, worn_take, refused_take, free_take, no_take, wanting_take, taken}
use Rattle.shelf.proofs.Publishing.{bar_plain}
use Rattle.shelf.proofs.Leads.{unfed, bars_none}
use Rattle.shelf.proofs.Standing.{no_call}
use Rattle.shelf.proofs.Order.{follows, quiet, quiet_event}
use Rattle.book_recovery.specs.InstanceBook.Places as sources
use Rattle.shelf.proofs.Shelves.{quiet_order, quiet_own, same_order, kept_told, some_kept}
use Rattle.shelf.proofs.Fitting.{fits_drawn, start_has_script}
use Rattle.shelf.proofs.Tickets.{anew_keeps, drawn_keeps, taken_goes}
use Rattle.shelf.proofs.Known.{told_still}
use Rattle.shelf.proofs.shelf.Shelf.take.Goals as goal

pub returns-in-Some-clause-event : goal.returns-in-Some-clause-event
returns-in-Some-clause-event g c =
    let s = c.args.self.now in
    let b = book_in g.D.Disk.view s in
    let d = target_of c.args.target.now in
    let v = meaning c.args.answer in
    let r = c.in-Some.reply in
    let bars : step.barred b ≡ Some (reply_of r) = sym c.barred.ensures.barred ∙ ap (λ (o : Option Reply). option_map reply_of o) c.in-Some.is in
    let comes = no_take s.rules b d v (reply_of r) (barred_take b d (reply_of r) bars) (bar_plain r (barred_by b (reply_of r) bars)) in
    quiet_event g.D.Disk.view g.N.Nonces.nonce s s (step.take d v) (reply_of r) b refl refl refl (λ given. quiet r given) comes.step

pub returns-then-drawn-eq-NUMBERS-clause-event : goal.returns-then-drawn-eq-NUMBERS-clause-event
returns-then-drawn-eq-NUMBERS-clause-event g c =
    let s = c.args.self.now in
    let b = book_in g.D.Disk.view s in
    let d = target_of c.args.target.now in
    let v = meaning c.args.answer in
    let free = bars_none g.D.Disk.view s (c.barred.ensures.free c.in_default.is) in
    let all : (b.drawn == 2 ^ 62) ≡ true = grind (arith, nat_tests, c.if-drawn-eq-NUMBERS.true, c.drawn.ensures) in
    let comes = no_take s.rules b d v step.worn (worn_take b d free all) refl in
    quiet_event g.D.Disk.view g.N.Nonces.nonce s s (step.take d v) step.worn b refl refl refl (λ given. refl) comes.step

pub returns-in-Err-clause-event : goal.returns-in-Err-clause-event
returns-in-Err-clause-event g c =
    let s = c.args.self.now in
    let b = book_in g.D.Disk.view s in
    let d = target_of c.args.target.now in
    let v = meaning c.args.answer in
    let free = bars_none g.D.Disk.view s (c.barred.ensures.free c.in_default.is) in
    let low : (b.drawn == 2 ^ 62) ≡ false = grind (arith, nat_tests, c.if-drawn-eq-NUMBERS.false, c.drawn.ensures) in
    let why : refusal_of (admit b d) ≡ Some c.in-Err.refusal = ap refusal_of (admit_same (library_in s) (beside_of g.D.Disk.view s) no_journal s.book d) ∙ c.in-Err.ensures.refused in
    let comes = no_take s.rules b d v (step.refusal c.in-Err.refusal) (refused_take b d c.in-Err.refusal free low why) refl in
    quiet_event g.D.Disk.view g.N.Nonces.nonce s s (step.take d v) (step.refusal c.in-Err.refusal) b refl refl refl (λ given. refl) comes.step

pub returns-in-Ok-clause-event : goal.returns-in-Ok-clause-event
returns-in-Ok-clause-event g c =
    let s = c.args.self.now in
    let b = book_in g.D.Disk.view s in
    let t = c.in-Ok.ticket in
    let d = target_of c.args.target.now in
    let v = meaning c.args.answer in
    let free = bars_none g.D.Disk.view s (c.barred.ensures.free c.in_default.is) in
    let low : (b.drawn == 2 ^ 62) ≡ false = grind (arith, nat_tests, c.if-drawn-eq-NUMBERS.false, c.drawn.ensures) in
    let why : refusal_of (admit b d) ≡ None = ap refusal_of (admit_same (library_in s) (beside_of g.D.Disk.view s) no_journal s.book d) ∙ c.in_default-admit.ensures.admitted in
    let none = free_take b d free low why in
    let number : t.number ≡ b.drawn = ap (λ (x : next.Ticket). x.number) c.in-Ok.ensures.ticket in
    record {
      step = λ source given has.
          let first : g.N.Nonces.nonce s.nonces 0 ≡ source given = has 0 ∙ ap source (omega arith) in
          let nonce : t.nonce ≡ source given = ap (λ (x : next.Ticket). x.nonce) c.in-Ok.ensures.ticket ∙ (c.next-nonce.ensures.first ∙ (c.again-nonces.ensures 0 ∙ first)) in
          let stepped : step.step (rules_of s.rules) b (source given) (step.take d v) step.plain ≡ (step.taken t.number t.nonce, draw b) =
          taken s.rules b d v (source given) none
          ∙ (ap (λ (n : ℕ). (step.taken n (source given), draw b)) (sym number) ∙ ap (λ (m : ℕ). (step.taken t.number m, draw b)) (sym nonce)) in
          follows source (shelf_of g.D.Disk.view given s) (step.take d v) (step.taken t.number t.nonce) (draw b) stepped
          ∙ ap (λ (x : Book). (step.taken t.number t.nonce, record (shelf_of g.D.Disk.view given s) { book = x; nonces = given + 1 })) (sym (c.in-Ok.ensures.drawn (library_in s) (beside_of g.D.Disk.view s)));
      nonces = λ source given has k. c.next-nonce.ensures.rest k ∙ (c.again-nonces.ensures (k + 1) ∙ (has (k + 1) ∙ ap source (omega arith)));
    }

pub returns-in-Ok-clause-in_order : goal.returns-in-Ok-clause-in_order
returns-in-Ok-clause-in_order g c =
    let s = c.args.self.now in
    let b = book_in g.D.Disk.view s in
    let d = target_of c.args.target.now in
    let v = meaning c.args.answer in
    let free = bars_none g.D.Disk.view s (c.barred.ensures.free c.in_default.is) in
    let low : (b.drawn == 2 ^ 62) ≡ false = grind (arith, nat_tests, c.if-drawn-eq-NUMBERS.false, c.drawn.ensures) in
    let why : refusal_of (admit b d) ≡ None = ap refusal_of (admit_same (library_in s) (beside_of g.D.Disk.view s) no_journal s.book d) ∙ c.in_default-admit.ensures.admitted in
    let scripts : HasWholeScripts (draw b) = record { setup = c.requires.scripts_are.setup; instances = c.requires.scripts_are.instances } in
    quiet_order g.D.Disk.view g.D.Disk.tells s _ refl refl (draw b) (c.in-Ok.ensures.drawn (library_in s) (beside_of g.D.Disk.view s)) refl refl (no_call g.D.Disk.view g.D.Disk.tells s.journal)
    c.requires (some_kept (library_in s).all s.book c.take_ticket.new.book c.take_ticket.ensures.states) (kept_told (library_in s).all s.book c.take_ticket.new.book c.take_ticket.ensures.states) c.requires.sound (step.take d v) step.plain (step.taken b.drawn 0) (taken s.rules b d v 0 (free_take b d free low why)) tt tt tt refl tt tt c.events_are_kept.ensures refl scripts c.requires.whole c.requires.knows.noted (told_still s.notes) refl (unfed g.D.Disk.view g.D.Disk.tells _ (c.barred.ensures.free c.in_default.is).leads)

pub returns-in-Ok-clause-own : goal.returns-in-Ok-clause-own
returns-in-Ok-clause-own g c =
    let s = c.args.self.now in
    let b = book_in g.D.Disk.view s in
    quiet_own g.D.Disk.view g.D.Disk.tells s _ refl refl (draw b) (c.in-Ok.ensures.drawn (library_in s) (beside_of g.D.Disk.view s)) refl refl (no_call g.D.Disk.view g.D.Disk.tells s.journal) (c.take_ticket.ensures.states (sources.own tt) (library_in s).all)

pub returns-in-Ok-clause-fits : goal.returns-in-Ok-clause-fits
returns-in-Ok-clause-fits g c = λ states.
    let s = c.args.self.now in
    let b = book_in g.D.Disk.view s in
    let t = c.in-Ok.ticket in
    let same : target_of t.target ≡ target_of c.args.target.now = ap (λ (x : next.Ticket). x.target) c.in-Ok.ensures.ticket in
    let here = fits_at (library_in s) no_journal (beside_of g.D.Disk.view s) s.book t (target_of c.args.target.now) (c.in-Ok.ensures.fits states) in
    fits_drawn (library_in s).all b _ t (target_of t.target) (c.in-Ok.ensures.drawn (library_in s) (beside_of g.D.Disk.view s)) (subst (λ (d : Destination). FitsAs (library_in s).all b t (admit b d)) (sym same) here)

pub returns-in-Ok-clause-script : goal.returns-in-Ok-clause-script
returns-in-Ok-clause-script g c =
    let l = library_in c.args.self.now in
    let b = book_under l c.args.self.now.book in
    let t = c.in-Ok.ticket in
    let d = target_of c.args.target.now in
    let same : target_of t.target ≡ d = ap (λ (x : next.Ticket). x.target) c.in-Ok.ensures.ticket in
    subst (HasItsScript l t) (sym same) (start_has_script l b t d (admit b d) refl refl c.in_default-admit.ensures.admitted c.in-Ok.ensures.starts)

pub returns-in-Ok-clause-out : goal.returns-in-Ok-clause-out
returns-in-Ok-clause-out g c =
    let s = c.args.self.now in
    let b = book_in g.D.Disk.view s in
    let number : c.in-Ok.ticket.number ≡ b.drawn = ap (λ (x : next.Ticket). x.number) c.in-Ok.ensures.ticket in
    let out : c.take_ticket.new.book.out.items ≡ b.out ++ b.drawn ∷ [] = ap (λ (d : Book). d.out) (c.in-Ok.ensures.drawn (library_in s) (beside_of g.D.Disk.view s)) in
    subst (λ (n : ℕ). Contains c.take_ticket.new.book.out.items n) (sym number) (subst (λ (ns : List ℕ). Contains ns b.drawn) (sym out) (Contains-push b.out b.drawn))

pub returns-in-Err-take_ticket-clause-event : goal.returns-in-Err-take_ticket-clause-event
returns-in-Err-take_ticket-clause-event g c =
    let s = c.args.self.now in
    let b = book_in g.D.Disk.view s in
    quiet_event g.D.Disk.view g.N.Nonces.nonce s _ (step.take (target_of c.args.target.now) (meaning c.args.answer)) step.memory b refl refl (c.in-Err-take_ticket.ensures.err (library_in s) (beside_of g.D.Disk.view s)) (λ given. refl)
    (wanting_take s.rules b (target_of c.args.target.now) (meaning c.args.answer)).step

pub returns-in-Err-take_ticket-clause-in_order : goal.returns-in-Err-take_ticket-clause-in_order
returns-in-Err-take_ticket-clause-in_order g c =
    let s = c.args.self.now in
    same_order g.D.Disk.view g.D.Disk.tells s _ c.requires (c.in-Err-take_ticket.ensures.err (library_in s) (beside_of g.D.Disk.view s)) (some_kept (library_in s).all s.book c.take_ticket.new.book c.take_ticket.ensures.states c.requires.kept) (kept_told (library_in s).all s.book c.take_ticket.new.book c.take_ticket.ensures.states) refl refl refl refl refl (c.barred.ensures.free c.in_default.is).leads refl

pub returns-in-Err-take_ticket-clause-own : goal.returns-in-Err-take_ticket-clause-own
returns-in-Err-take_ticket-clause-own g c =
    let s = c.args.self.now in
    let b = book_in g.D.Disk.view s in
    quiet_own g.D.Disk.view g.D.Disk.tells s _ refl refl b (c.in-Err-take_ticket.ensures.err (library_in s) (beside_of g.D.Disk.view s)) refl refl (no_call g.D.Disk.view g.D.Disk.tells s.journal) (c.take_ticket.ensures.states (sources.own tt) (library_in s).all)

-- the ticket goes on from its page, and so do those that were taken before

pub returns-in-Ok-clause-tickets : goal.returns-in-Ok-clause-tickets
returns-in-Ok-clause-tickets g c =
    λ t h. let kept = drawn_keeps g.D.Disk.view c.args.self.now c.requires.orderly c.take_ticket.new.book c.take_ticket.ensures.states c.in-Ok.ensures.drawn t h in record { used = kept.used; goes = kept.goes }

pub returns-in-Ok-clause-goes : goal.returns-in-Ok-clause-goes
returns-in-Ok-clause-goes g c =
    let s = c.args.self.now in
    let b = book_in g.D.Disk.view s in
    let t = c.in-Ok.ticket in
    let d = target_of c.args.target.now in
    let same : target_of t.target ≡ d = ap (λ (x : next.Ticket). x.target) c.in-Ok.ensures.ticket in
    let why : refusal_of (admit b d) ≡ None = ap refusal_of (admit_same (library_in s) (beside_of g.D.Disk.view s) no_journal s.book d) ∙ c.in_default-admit.ensures.admitted in
    let kept = drawn_keeps g.D.Disk.view s c.requires.orderly c.take_ticket.new.book c.take_ticket.ensures.states c.in-Ok.ensures.drawn t (taken_goes g.D.Disk.view s c.requires.orderly t d same why c.in-Ok.ensures.goes) in
    record { used = kept.used; goes = kept.goes }

pub returns-in-Some-clause-tickets : goal.returns-in-Some-clause-tickets
returns-in-Some-clause-tickets g c = λ t h. h

pub returns-then-drawn-eq-NUMBERS-clause-tickets : goal.returns-then-drawn-eq-NUMBERS-clause-tickets
returns-then-drawn-eq-NUMBERS-clause-tickets g c = λ t h. h

pub returns-in-Err-clause-tickets : goal.returns-in-Err-clause-tickets
returns-in-Err-clause-tickets g c = λ t h. h

pub returns-in-Err-take_ticket-clause-tickets : goal.returns-in-Err-take_ticket-clause-tickets
returns-in-Err-take_ticket-clause-tickets g c =
    λ t h. let kept = anew_keeps g.D.Disk.view c.args.self.now c.requires.orderly c.take_ticket.new.book c.take_ticket.ensures.states c.in-Err-take_ticket.ensures.err t h in record { used = kept.used; goes = kept.goes }

pub take_ticket-requires-clause-kept : goal.take_ticket-requires-clause-kept
take_ticket-requires-clause-kept g c = c.requires.kept
