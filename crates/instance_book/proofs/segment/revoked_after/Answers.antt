use Rattle.std.proofs.Common.{◌∙◌, ap, sym}
use Rattle.script_nodes.specs.declared.script.SendKind.{SendKind}
use Rattle.journal_records.specs.ReplaySpec.Change.{revoked_by}
use Rattle.instance_book.specs.Views.{pages_of}
use Rattle.instance_book.proofs.Seen.{pages_numbered}
use Rattle.instance_book.proofs.segment.revoked_after.Goals as goal

pub returns-in_ok-numbers-in-Forward : goal.returns-in_ok-numbers-in-Forward
returns-in_ok-numbers-in-Forward c revoked =
    c.in_ok-numbers-in-Forward.ensures
    ∙ (pages_numbered c.args.pages.now.things.items ∙ ap (λ (k : SendKind). revoked_by k (pages_of c.args.pages.now) revoked) (sym c.in-Forward.is))
