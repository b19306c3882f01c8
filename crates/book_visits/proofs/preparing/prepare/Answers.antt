use Rattle.std.proofs.Common.{◌∙◌, ap, sym, subst, arith, IfOk}
use Rattle.page_names.specs.Views.{name_of, target_of}
use Rattle.page_names.specs.declared.names.Target.{Target}
use Rattle.machine_states.specs.Views.{segment_of}
use Rattle.replay_spec.specs.Admission.{admit}
use Rattle.instance_book.specs.Views.{book_of}
use Rattle.book_visits.specs.Prepares.{KeepsStateOf, IsOfSegment}
use Rattle.book_visits.proofs.Admitted.{start_prepared, page_prepared}
use Rattle.book_visits.proofs.preparing.prepare.Goals as goal

pub prepare_start-requires-clause-number : goal.prepare_start-requires-clause-number
prepare_start-requires-clause-number c = omega (arith, c.args.book.now.below c.args.ticket.now.number c.requires.out, c.args.book.now.numbers)

pub prepare_page-requires-clause-number : goal.prepare_page-requires-clause-number
prepare_page-requires-clause-number c = omega (arith, c.args.book.now.below c.args.ticket.now.number c.requires.out, c.args.book.now.numbers)

pub returns-in-Start-clause-decided : goal.returns-in-Start-clause-decided
returns-in-Start-clause-decided c library beside fuel a adm admitted fits =
    start_prepared library beside fuel c.args.life c.args.instances c.args.pages c.args.book.now c.args.ticket.now (segment_of c.args.segment) c.prepare_start.result (name_of c.in-Start.field-0) a
    (ap (λ (t : Target). admit (book_of library beside c.args.book.now) (target_of t)) (sym c.in-Start.is) ∙ adm) admitted fits c.prepare_start.ensures.decided

pub returns-in-Page-clause-decided : goal.returns-in-Page-clause-decided
returns-in-Page-clause-decided c library beside fuel a adm admitted fits =
    page_prepared library beside fuel c.args.life c.args.instances c.args.pages c.args.book.now c.args.ticket.now (segment_of c.args.segment) c.prepare_page.result (name_of c.in-Page.field-0) c.in-Page.page a
    (ap (λ (t : Target). admit (book_of library beside c.args.book.now) (target_of t)) (sym c.in-Page.is) ∙ adm) admitted fits c.prepare_page.ensures.decided

pub returns-in-Start-clause-state : goal.returns-in-Start-clause-state
returns-in-Start-clause-state c =
    subst (λ (x : Target). IfOk c.prepare_start.result (λ p. KeepsStateOf c.args.ticket.now c.args.segment (target_of x) p.change)) (sym c.in-Start.is) c.prepare_start.ensures.state

pub returns-in-Page-clause-state : goal.returns-in-Page-clause-state
returns-in-Page-clause-state c =
    subst (λ (x : Target). IfOk c.prepare_page.result (λ p. KeepsStateOf c.args.ticket.now c.args.segment (target_of x) p.change)) (sym c.in-Page.is) c.prepare_page.ensures.state

pub returns-in-Start-clause-itself : goal.returns-in-Start-clause-itself
returns-in-Start-clause-itself c =
    subst (λ (x : Target). IfOk c.prepare_start.result (IsOfSegment c.args.book.now c.args.ticket.now (segment_of c.args.segment) (target_of x))) (sym c.in-Start.is)
    (c.prepare_start.ensures.itself (name_of c.in-Start.field-0))

pub returns-in-Page-clause-itself : goal.returns-in-Page-clause-itself
returns-in-Page-clause-itself c =
    subst (λ (x : Target). IfOk c.prepare_page.result (IsOfSegment c.args.book.now c.args.ticket.now (segment_of c.args.segment) (target_of x))) (sym c.in-Page.is)
    (c.prepare_page.ensures.itself (name_of c.in-Page.field-0))
