-- Want of memory may stand for any answer.
use Rattle.std.proofs.Common.{◌≡◌, ◌∙◌, ap, refl, Option, Some, None, IfSome, option_map, Contains, inl, Result, Ok, Err, IfOk}
use Rattle.std.specs.Prelude.{IfErr}
use Rattle.std.proofs.lemmas.Option.{same_Some, none-some}
use Rattle.script_value.specs.declared.outcome.Refusal.{Refusal}
use Rattle.script_value.specs.declared.outcome.Reply.{Reply}
use Rattle.script_value.specs.declared.outcome.Reply.TheVariants as reply
use Rattle.script_nodes.specs.Setup.{Library}
use Rattle.page_names.specs.Names.{Destination, start, page}
use Rattle.page_names.specs.Views.{target_of}
use Rattle.replay_spec.specs.Rules.{Rules}
use Rattle.replay_spec.specs.Admission.{Admission, begins, resumes, refused, refusal_of, admit}
use Rattle.replay_spec.specs.Next.{Ticket as spec_ticket}
use Rattle.replay_spec.specs.Book.{Book, at_number, page_at}
use Rattle.replay_spec.specs.Invariant.{IsOrderly}
use Rattle.replay_spec.proofs.Stand.{among_of}
use Rattle.book_recovery.specs.InstanceBook.declared.book.Book as kept
use Rattle.book_recovery.specs.InstanceBook.declared.numbered.Numbered.{Numbered}
use Rattle.book_recovery.specs.InstanceBook.declared.instance.KeptInstance.{KeptInstance}
use Rattle.book_visits.specs.declared.ticket.Ticket.{Ticket}
use Rattle.book_recovery.specs.InstanceBook.Standing.{book_under}
use Rattle.book_recovery.proofs.InstanceBook.Seen.{instance_some}
use Rattle.replay_spec.specs.Step as step
use Rattle.replay_spec.specs.Step.{Decision, plain, replies, unless, decide}
use Rattle.book_visits.specs.declared.prepared.Prepared.{Prepared}
use Rattle.book_recovery.specs.InstanceBook.Views.{Beside, no_journal, book_of, pages_of, instance_of}
use Rattle.book_visits.specs.Admissions.{refusal_for}
use Rattle.book_visits.specs.Views.{ticket_of, reply_of}
use Rattle.book_visits.specs.Prepares.{Prepares, IsOfRun, WantsRoom, IsNewBy}
use Rattle.shelf.specs.declared.rules.Rules as limits_of
use Rattle.shelf.specs.Views.{unmeasured, fate_by}
use Rattle.shelf.specs.Preparing.{Decides, TellsOfRun, decision_beside}
use Rattle.shelf.proofs.Beside.{admit_same}

-- want of memory may stand where it need not
pub decides : (library : Library) (r : limits_of.Rules) (b : Book) (d : Decision) (x : Result Prepared Reply) → Prepares library (unmeasured r) b d x → Decides library (unmeasured r) b d x
decides library r b d (Ok p) h = h
decides library r b d (Err (reply.Page bytes url)) h = h
decides library r b d (Err (reply.Finished bytes)) h = h
decides library r b d (Err (reply.Ended bytes)) h = h
decides library r b d (Err (reply.Refused why)) h = h
decides library r b d (Err (reply.Fault f)) h = h
decides library r b d (Err (reply.Fuel cost)) h = h
decides library r b d (Err (reply.ShelfFull count)) h = h
decides library r b d (Err (reply.Oversize n)) h = h
decides library r b d (Err (reply.JournalFull n)) h = h
decides library r b d (Err (reply.DiskFault count)) h = h
decides library r b d (Err (reply.Down count)) h = h
decides library r b d (Err reply.Following) h = h
decides library r b d (Err reply.Worn) h = h
decides library r b d (Err reply.Memory) h = tt

refused_decides : (rules : Rules) (b : Book) (t : spec_ticket) (a : Admission) (why : Refusal) → refusal_of a ≡ Some why → decide rules b t a ≡ replies (step.refusal why)
refused_decides rules b t (begins k s) why e = absurd (none-some why e)
refused_decides rules b t (resumes at) why e = absurd (none-some why e)
refused_decides rules b t (refused r) why e = ap (λ (x : Refusal). replies (step.refusal x)) (same_Some r why e)

-- a target that is not admitted is answered with its refusal
pub refused_beside : (l : Library) (beside : Beside) (r : limits_of.Rules) (b : kept.Book) (t : Ticket) (why : Refusal) → refusal_for l b t.target ≡ Some why → step.barred (book_of l beside b) ≡ None
    → decision_beside l beside r b t ≡ replies (step.refusal why)
refused_beside l beside r b t why told free =
    let here = book_of l beside b in
    let x = target_of t.target in
    let rules = unmeasured r in
    ap (λ (o : Option step.Reply). unless o (decide rules here (ticket_of t) (admit here x))) free
    ∙ refused_decides rules here (ticket_of t) (admit here x) why (ap refusal_of (admit_same l beside no_journal b x) ∙ told)

-- what a run comes to
plain_run : (x : step.Reply) → IsOfRun x → fate_by x ≡ plain
plain_run (step.shown bytes url) h = refl
plain_run (step.finished bytes) h = refl
plain_run (step.ended bytes) h = refl
plain_run (step.refusal r) h = refl
plain_run (step.fault f) h = refl
plain_run (step.out_of_fuel cost) h = refl
plain_run x h = absurd h

pub tells_of_run : (r : Result Prepared Reply) → IfOk r (λ p. IsOfRun (reply_of p.reply)) → IfErr r (λ x. WantsRoom (reply_of x)) → TellsOfRun r
tells_of_run (Ok p) made wants = plain_run (reply_of p.reply) made
tells_of_run (Err (reply.ShelfFull count)) made wants = refl
tells_of_run (Err reply.Memory) made wants = tt
tells_of_run (Err x) made wants = absurd wants

-- the number of an answer's ticket, which is out, is no page of the instance
pub number_is_new : (l : Library) (b : kept.Book) (t : Ticket) (d : Destination) → IsOrderly (book_under l b) → Contains b.out.items t.number → IsNewBy b t d
number_is_new l b t (start name) g out = tt
number_is_new l b t (page name n) g out = by_item (at_number (λ i. i.number) n.instance b.instances.things.items) refl
  where
    by_item : (o : Option (Numbered KeptInstance)) → at_number (λ i. i.number) n.instance b.instances.things.items ≡ o → IfSome (option_map (λ i. pages_of i.item.pages) o) (λ ps. page_at t.number ps ≡ None)
    by_item None e = tt
    by_item (Some i) e =
        let here = instance_some l.all n.instance b.instances.things.items i e in
        g.instances.no_page t.number (inl (among_of b.out.items t.number out)) n.instance (instance_of l.all i) here
