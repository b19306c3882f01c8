use Rattle.std.proofs.Common.{◌≡◌, ◌∙◌, ap, sym, subst, refl, None, Option, Result, IfOk}
use Rattle.script_value.specs.declared.outcome.Reply.{Reply as RustReply}
use Rattle.script_nodes.specs.Views.{library_of}
use Rattle.page_names.specs.Views.{target_of}
use Rattle.machine_states.specs.Views.{segment_of}
use Rattle.replay_spec.specs.Admission.{refusal_of, admit}
use Rattle.replay_spec.specs.Step.{Decision, Reply, unless, barred, decide, publish_comes}
use Rattle.book_visits.specs.declared.prepared.Prepared.{Prepared}
use Rattle.book_recovery.specs.InstanceBook.Standing.{book_under}
use Rattle.book_visits.specs.Admissions.{FitsIn}
use Rattle.book_visits.specs.Changes.{HasDeadlineBy}
use Rattle.book_visits.specs.Prepares.{Prepares, IsPrepared, KeepsItsState}
use Rattle.book_recovery.specs.InstanceBook.Views.{Beside, no_journal, book_of}
use Rattle.book_visits.specs.Views.{ticket_of}
use Rattle.shelf.specs.Views.{unmeasured}
use Rattle.shelf.proofs.Replayed.{if_ok}
use Rattle.shelf.proofs.Beside.{admit_same, fits_at, segment_at, prepares_by}
use Rattle.shelf.proofs.Deciding.{decides, refused_beside, tells_of_run, number_is_new}
use Rattle.shelf.proofs.Now.{both_ok}
use Rattle.shelf.proofs.prepare.prepared.Goals as goal
use Rattle.shelf.proofs.prepare.prepared.Goals.{In-Ok}

pub returns-in-Ok-clause-landed : goal.returns-in-Ok-clause-landed
returns-in-Ok-clause-landed c =
    let t = c.args.ticket.now in
    let more : IfOk c.prepare.result (λ p. HasDeadlineBy p.change × KeepsItsState t c.in-Ok.segment p.change) = both_ok c.prepare.result c.prepare.ensures.deadline c.prepare.ensures.state (λ p deadline state. (deadline, state)) in
    both_ok c.prepare.result c.prepare.ensures.itself more (λ p its both. record {
      admitted = c.in_default.ensures.admitted;
      segment = c.in-Ok.segment;
      itself = its;
      deadline = both.0;
      state = both.1;
      held = c.in-Ok.ensures.held;
      whole = c.in-Ok.ensures.whole;
      own = λ fits. c.in-Ok.ensures.state (record { admitted = c.in_default.ensures.admitted; fits = fits });
    })

-- where the ticket is for its visit, that is prepared
prepares : (c : In-Ok) (beside : Beside) → let l = library_of c.args.library.now in FitsIn l c.args.book.now c.args.ticket.now.target c.args.ticket.now → let b = book_of l beside c.args.book.now in barred b ≡ None
    → (result : Result Prepared RustReply) → IsPrepared c.args.book.now c.args.ticket.now (segment_of c.in-Ok.segment) c.args.rules.instances c.args.rules.pages c.args.rules.life result
    → Prepares l (unmeasured c.args.rules) b (publish_comes (unmeasured c.args.rules) b (ticket_of c.args.ticket.now)) result
prepares c beside fits free result decided =
    let l = library_of c.args.library.now in
    let r = c.args.rules in
    let kept = c.args.book.now in
    let t = c.args.ticket.now in
    let x = target_of t.target in
    let b = book_of l beside kept in
    let now = c.in-Ok.ensures.segment (record { admitted = c.in_default.ensures.admitted; fits = fits }) in
    let there = prepares_by l r.fuel r.life r.instances r.pages b t (admit b x) (segment_of c.in-Ok.segment) result (segment_at l no_journal beside kept r.fuel t x (segment_of c.in-Ok.segment) now)
    (decided l beside r.fuel (admit b x) refl (ap refusal_of (admit_same l beside no_journal kept x) ∙ c.in_default.ensures.admitted) (fits_at l no_journal beside kept t x fits)) in
    let same : publish_comes (unmeasured r) b (ticket_of t) ≡ decide (unmeasured r) b (ticket_of t) (admit b x) = ap (λ (o : Option Reply). unless o (decide (unmeasured r) b (ticket_of t) (admit b x))) free in
    subst (λ (d : Decision). Prepares l (unmeasured r) b d result) (sym same) there

pub returns-in-Ok-clause-held : goal.returns-in-Ok-clause-held
returns-in-Ok-clause-held c fits first is held beside free = prepares (goal.at.returns-in-Ok-clause-held c).In-Ok beside fits free c.prepare.result c.prepare.ensures.decided

pub returns-in-Ok-clause-decided : goal.returns-in-Ok-clause-decided
returns-in-Ok-clause-decided c fits beside free =
    let l = library_of c.args.library.now in
    let r = c.args.rules in
    let b = book_of l beside c.args.book.now in
    decides l r b (publish_comes (unmeasured r) b (ticket_of c.args.ticket.now)) c.prepare.result (prepares (goal.at.returns-in-Ok-clause-decided c).In-Ok beside fits free c.prepare.result c.prepare.ensures.decided)

pub returns-in-Ok-clause-tells : goal.returns-in-Ok-clause-tells
returns-in-Ok-clause-tells c = tells_of_run c.prepare.result c.prepare.ensures.reply c.prepare.ensures.refused

pub returns-in-Ok-clause-shown : goal.returns-in-Ok-clause-shown
returns-in-Ok-clause-shown c fits =
    let l = library_of c.args.library.now in
    let b = book_under l c.args.book.now in
    let t = c.args.ticket.now in
    let a = admit b (target_of t.target) in
    let now = c.in-Ok.ensures.state (record { admitted = c.in_default.ensures.admitted; fits = fits }) in
    if_ok c.prepare.result c.prepare.ensures.state (λ p keeps spelled.
    c.a_shown_page_has_its_state.ensures l.all b c.requires.orderly t c.requires.out a refl c.in_default.ensures.admitted fits c.in-Ok.segment now p.change keeps spelled)

pub prepare-requires-clause-unused : goal.prepare-requires-clause-unused
prepare-requires-clause-unused c =
    let l = library_of c.args.library.now in
    let t = c.args.ticket.now in
    number_is_new l c.args.book.now t (target_of t.target) c.requires.orderly c.requires.out

-- a target that is not admitted

pub returns-in-Err-clause-decided : goal.returns-in-Err-clause-decided
returns-in-Err-clause-decided c fits beside free = refused_beside (library_of c.args.library.now) beside c.args.rules c.args.book.now c.args.ticket.now c.in-Err.refusal c.in-Err.ensures.refused free

pub returns-in-Err-clause-held : goal.returns-in-Err-clause-held
returns-in-Err-clause-held c fits r is held beside free = refused_beside (library_of c.args.library.now) beside c.args.rules c.args.book.now c.args.ticket.now c.in-Err.refusal c.in-Err.ensures.refused free
