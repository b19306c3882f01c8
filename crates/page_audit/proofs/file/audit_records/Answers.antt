use Rattle.std.proofs.Common.{◌∙◌, sym, subst, ℕ}
use Rattle.page_journal.specs.Records.{Log, format_of, stored}
use Rattle.setup_reader.specs.Texts.{setup_of_texts}
use Rattle.record_audit.specs.AuditSpec.Findings.{audited}
use Rattle.page_audit.specs.Audits.{audit_by, IsAnswer}
use Rattle.page_audit.proofs.All.{all_answered}
use Rattle.page_audit.proofs.file.audit_records.Goals as goal

pub returns-clause-answer : goal.returns-clause-answer
returns-clause-answer g c told =
    let at = c.requires.found told in
    let seen = (g.D.Disk.view c.args.disk.now).seen in
    let result = c.answer.result in
    let answered = all_answered c.format.result (stored seen) c.new-auditor.result c.for_each.new.taker result c.new-auditor.ensures.started (c.in_ok-for_each.ensures.taken told) c.answer.ensures.concludes in
    subst (λ (l : Log). IsAnswer (audit_by (format_of seen) l) result) (sym at.holds.intact)
    (subst (λ (k : ℕ). IsAnswer (audited k setup_of_texts (stored seen)) result) (c.format.ensures ∙ at.format) answered)

pub returns-clause-cause : goal.returns-clause-cause
returns-clause-cause g c is = absurd (c.answer.ensures.calls_none is)
