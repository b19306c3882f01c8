use Rattle.std.proofs.Common.{◌∙◌, subst, ℕ, arith}
use Rattle.web_outside.specs.Causes.{Rose}
use Rattle.disk_trio.specs.Trio.{trio_view}
use Rattle.disk_trio.specs.Laws.{only_left}
use Rattle.page_journal.specs.Records.{newest, stored}
use Rattle.shelf.proofs.Replaced.{while_still, left_first, left_then}
use Rattle.shelf.proofs.compaction.replaced.Goals as goal

-- there was no room

pub returns-then-is_err-clause-replaces : goal.returns-then-is_err-clause-replaces
returns-then-is_err-clause-replaces g c =
    let j = c.args.journal.now in
    let mid = c.room_to_replace.new.self in
    let room = c.room_to_replace.ensures in
    let still = while_still trio_view j (trio_view mid.disk) (only_left g.F.Disk j.disk) room.images room.time in
    let faults = room.faults in
    record {
      becomes = record {
        settled = λ told _. room.settled told;
        seen = room.seen;
        images = room.images;
        moments = still;
        faults = room.faults;
        len = room.len;
        whole = room.whole;
        format = room.format;
      };
      moments = λ told. left_first trio_view j newest (stored c.args.file.now) (trio_view mid.disk) (c.requires.settled told) still;
      later = omega (arith, faults);
    }

-- the file is the new one

pub returns-in-Ok-clause-replaces : goal.returns-in-Ok-clause-replaces
returns-in-Ok-clause-replaces g c =
    let j = c.args.journal.now in
    let mid = c.room_to_replace.new.self in
    let new = c.replace.new.self in
    let room = c.room_to_replace.ensures in
    let still = while_still trio_view j (trio_view mid.disk) (only_left g.F.Disk j.disk) room.images room.time in
    let done = c.in-Ok.ensures in
    let faults = room.faults in
    let later = c.replace.ensures.later in
    record {
      becomes = record { settled = λ told. done.ok told; len = done.len; whole = done.whole; format = done.format };
      moments = λ told. left_then trio_view j mid new (stored c.args.file.now) (c.requires.settled told) still room.format room.seen (c.replace.ensures.any_moment told);
      later = omega (arith, faults, later);
    }

-- a call of the disk failed

pub returns-in-Err-clause-replaces : goal.returns-in-Err-clause-replaces
returns-in-Err-clause-replaces g c =
    let j = c.args.journal.now in
    let mid = c.room_to_replace.new.self in
    let new = c.replace.new.self in
    let room = c.room_to_replace.ensures in
    let still = while_still trio_view j (trio_view mid.disk) (only_left g.F.Disk j.disk) room.images room.time in
    let failed = c.in-Err.ensures in
    let faults = room.faults in
    let later = c.replace.ensures.later in
    let cause = failed.cause in
    record {
      becomes = record { cause = subst (λ (n : ℕ). Rose n (trio_view new.disk).faults) faults cause; len = failed.same_len ∙ room.len; format = failed.same_format ∙ room.format };
      moments = λ told. left_then trio_view j mid new (stored c.args.file.now) (c.requires.settled told) still room.format room.seen (c.replace.ensures.any_moment told);
      later = omega (arith, faults, later);
    }
