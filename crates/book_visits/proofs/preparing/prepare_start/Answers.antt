use Rattle.std.proofs.Common.{◌≡◌, ◌∙◌, ◌+◌, ◌<◌, ◌^◌, ap, subst, ℕ, refl, length, nat_le, false, arith, inr}
use Rattle.std.proofs.lemmas.Bool.Decides.{nat_tests}
use Rattle.replay_spec.specs.Book as spec
use Rattle.replay_spec.specs.Next.{start_visit}
use Rattle.replay_spec.specs.Step.{opening}
use Rattle.machine_states.specs.Views.{outcome_of, segment_of, state_of, suspended_of}
use Rattle.instance_book.specs.Views.{book_of, instance_of}
use Rattle.instance_book.specs.Makes.{rules_with}
use Rattle.book_visits.specs.Views.{ticket_of}
use Rattle.book_visits.specs.Prepares.{IsOpening}
use Rattle.instance_book.proofs.Seen.{length_seen}
use Rattle.book_visits.proofs.Lands.{opening_lands}
use Rattle.book_visits.proofs.Itself.{opens_itself}
use Rattle.book_visits.proofs.Timely.{timely}
use Rattle.book_visits.proofs.preparing.prepare_start.Goals as goal

pub returns-in-Ok-clause-decided : goal.returns-in-Ok-clause-decided
returns-in-Ok-clause-decided c library beside fuel pages k named fits =
    let b = book_of library beside c.args.book.now in
    let many = length_seen (instance_of library.all) c.args.book.now.instances.things.items in
    let full : nat_le c.args.instances (length b.instances) ≡ false = grind (arith, nat_tests, many, c.if-count-instances.false, c.live-count.ensures) in
    let s = segment_of c.args.segment in
    let t = c.args.ticket.now in
    let rules = rules_with fuel c.args.life c.args.instances pages in
    let its : spec.Opening = opening rules b (start_visit b (ticket_of t) k named) s t.start c.in-Shown.kind in
    let opens = subst (λ (d : ℕ). IsOpening c.in-Ok.prepared t c.in-Shown.page (record its { deadline = d }) s.entered) (c.deadline.ensures ∙ ap (λ (n : ℕ). n + c.args.life) c.clock.ensures.clock) c.in-Ok.ensures.opens in
    opening_lands library fuel c.args.life c.args.instances pages b c.args.ticket.now refl k named s c.in-Shown.kind c.in-Shown.page c.in-Ok.prepared
    fits (ap outcome_of c.in-Shown.is) full opens

pub returns-in-Ok-clause-state : goal.returns-in-Ok-clause-state
returns-in-Ok-clause-state c = inr (suspended_of c.in-Shown.state, (ap state_of c.in-Shown.is, c.in-Ok.ensures.state))

pub returns-in-Ok-clause-itself : goal.returns-in-Ok-clause-itself
returns-in-Ok-clause-itself c name =
    opens_itself c.args.book.now c.args.ticket.now (segment_of c.args.segment) name c.in-Shown.page _ c.in-Ok.prepared c.in-Ok.ensures.opens refl

pub returns-in-Ok-clause-deadline : goal.returns-in-Ok-clause-deadline
returns-in-Ok-clause-deadline c =
    let early : c.deadline.result < 2 ^ 63 = omega (arith, c.clock.ensures.low, c.requires.life, c.deadline.ensures) in
    (timely c.in-Ok.prepared _ c.in-Ok.ensures.opens.recorded.decision (tt, early)).0

pub returns-in-Ok-clause-reply : goal.returns-in-Ok-clause-reply
returns-in-Ok-clause-reply c =
    let early : c.deadline.result < 2 ^ 63 = omega (arith, c.clock.ensures.low, c.requires.life, c.deadline.ensures) in
    (timely c.in-Ok.prepared _ c.in-Ok.ensures.opens.recorded.decision (tt, early)).1
