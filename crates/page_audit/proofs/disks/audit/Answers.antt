use Rattle.std.proofs.Common.{◌∙◌, sym}
use Rattle.page_audit.proofs.Unwritten.{on_ok}
use Rattle.page_audit.proofs.disks.audit.Goals as goal

pub returns-clause-durable : goal.returns-clause-durable
returns-clause-durable g c told =
    on_ok c.read_through-answer.result (λ only image left. only image (c.forget.ensures.images image left) ∙ sym (c.forget.ensures.seen told)) (c.read_through-answer.ensures.durable told)
