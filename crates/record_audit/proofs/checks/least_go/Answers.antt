use Rattle.std.proofs.Common.{◌∙◌, ap, sym, ℕ, ◌==◌}
use Rattle.script_nodes.specs.Views.{library_of}
use Rattle.journal_records.specs.Views.{origin_of}
use Rattle.journal_records.specs.declared.records.Origin.{Origin}
use Rattle.book_redo.specs.InstanceBook.Standing.{book_under}
use Rattle.book_redo.proofs.Landed.{opening_is}
use Rattle.audit_spec.specs.Tests.{least_go}
use Rattle.record_audit.proofs.Compared.{no_numbers}
use Rattle.record_audit.proofs.checks.least_go.Goals as goal

pub returns-in-Start : goal.returns-in-Start
returns-in-Start c =
    let page = c.args.page.now in
    let b = book_under (library_of c.args.library.now) c.args.book.now in
    let origin = ap (λ (o : Origin). origin_of o) c.in-Start.is in
    c.is_empty.ensures
    ∙ (ap (λ (n : ℕ). n == 0) page.evicted.ok.0 ∙ (no_numbers page.evicted.items ∙ sym (ap (least_go b) (opening_is page c.in-Start.script origin))))
