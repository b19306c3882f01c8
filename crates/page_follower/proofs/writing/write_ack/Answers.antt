use Rattle.page_follower.proofs.Texts.{part_kept, whole_kept}
use Rattle.page_follower.proofs.writing.write_ack.Goals as goal

pub returns-clause-ok : goal.returns-clause-ok
returns-clause-ok g c = whole_kept _ _ _ _ c.flush.result c.in_ok-write_line.ensures.ok c.flush.ensures.same

pub returns-clause-part : goal.returns-clause-part
returns-clause-part g c = part_kept _ _ _ _ c.in_ok-write_line.ensures.part c.flush.ensures.same
