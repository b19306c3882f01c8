use Rattle.std.proofs.Common.{◌++◌, ap, subst}
use Rattle.shelf.specs.WebOutside.Pieces.{AppendsPart}
use Rattle.page_follower.proofs.Texts.{whole_as}
use Rattle.page_follower.proofs.writing.write_record.Goals as goal

pub returns-clause-ok : goal.returns-clause-ok
returns-clause-ok g c = whole_as _ _ _ _ c.write_both.result (ap (λ l. l ++ c.args.body.now) c.u32_to_wire.ensures.bytes) c.write_both.ensures.ok

pub returns-clause-part : goal.returns-clause-part
returns-clause-part g c = subst (AppendsPart _ _) (ap (λ l. l ++ c.args.body.now) c.u32_to_wire.ensures.bytes) c.write_both.ensures.part
