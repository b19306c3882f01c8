use Rattle.std.proofs.Common.{◌∙◌}
use Rattle.journal_records.specs.Records.{follows, body_of}
use Rattle.shelf.proofs.Telling.{told_setup, failed_setup}
use Rattle.shelf.proofs.reopen.tell_role.Goals as goal

pub returns-in-Ok-added-clause-told : goal.returns-in-Ok-added-clause-told
returns-in-Ok-added-clause-told g c =
    told_setup g.D.Disk.view g.D.Disk.tells c.args.journal.now c.room.new.self c.added.new.journal (body_of follows) c.as_slice.result.now (c.as_slice.ensures ∙ c.in-Ok.ensures)
    c.requires.newest (g.met.D.Disk.only_now c.args.journal.now.disk) c.requires.settled c.room.ensures.seen c.room.ensures.images c.room.ensures.time c.room.ensures.faults c.added.ensures.any_moment c.added.ensures.later
    c.added.ensures.bytes c.in-Ok-added.ensures.ok c.in-Ok-added.ensures.len c.room.ensures.len

pub returns-clause-told : goal.returns-clause-told
returns-clause-told g c =
    failed_setup g.D.Disk.view g.D.Disk.tells c.args.journal.now c.room.new.self c.added.new.journal (body_of follows) c.as_slice.result.now (c.as_slice.ensures ∙ c.in-Ok.ensures)
    c.requires.newest (g.met.D.Disk.only_now c.args.journal.now.disk) c.requires.settled c.room.ensures.seen c.room.ensures.images c.room.ensures.time c.room.ensures.faults c.added.ensures.any_moment c.added.ensures.later
    c.in-Err.ensures.cause
