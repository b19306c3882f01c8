use Rattle.std.proofs.Common.{◌∙◌, ap, ℕ}
use Rattle.script_nodes.specs.Views.{library_of}
use Rattle.replay_spec.specs.Admission.{Place, why_not}
use Rattle.book_redo.specs.InstanceBook.Views.{page_of, instance_of}
use Rattle.audit_spec.specs.Tests.{is_none, holds_of}
use Rattle.record_audit.proofs.Compared.{none_by}
use Rattle.record_audit.proofs.checks.can_be_answered.Goals as goal

pub returns-in-Some : goal.returns-in-Some
returns-in-Some c =
    let all = (library_of c.args.library.now).all in
    let clock = c.args.book.now.clock in
    let i = instance_of all c.in-Some.place.instance.now in
    let p = page_of c.in-Some.place.page.now in
    none_by c.why_not.result c.is_none.result c.is_none.ensures
    ∙ (ap is_none (c.why_not.ensures all ∙ ap (λ (n : ℕ). why_not n i p) c.clock.ensures.clock)
    ∙ ap (holds_of (λ (at : Place). is_none (why_not clock at.instance at.page))) c.in-Some.ensures.place)
